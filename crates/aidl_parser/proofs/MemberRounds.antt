-- The loop over members, and one level of declarations.
use Rattle.std.proofs.Common.{◌≡◌, ℕ, zero, suc, ◌-◌, ◌<◌, Bool, true, false, List, [], ◌∷◌, ◌++◌, map, Some, None, refl, sym, ap, subst, ◌∙◌, arith}
use Rattle.std.proofs.lemmas.List.{map-append}
use Rattle.aidl_syntax.specs.declared.token.Token.{Token}
use Rattle.aidl_syntax.specs.declared.token.Symbol.TheVariants as mark
use Rattle.aidl_syntax.specs.declared.tree.MemberTree.{MemberTree}
use Rattle.aidl_syntax.specs.Trees.{Annot, Members, ahead_of, member_of}
use Rattle.aidl_syntax.specs.Trees.Members.{none}
use Rattle.expr_parser.specs.Reading.{Read, ◌>>=◌}
use Rattle.aidl_parser.specs.steps.Parts.{begins, alter}
use Rattle.aidl_parser.specs.steps.Decls.{decl_at, declared, body_by, members_at, members_by, members_behind, joined, member_at, member_with, with_members}

pub decl_step : (n o : ℕ) (annots : List Annot) (ts : List Token) → 0 < n → decl_at n o annots ts ≡ alter (declared o annots) (body_by (λ inside us. members_at n n inside us) n) ts
unfolding decl_at members_at
decl_step zero o annots ts lt = absurd (omega arith)
decl_step (suc n) o annots ts lt =
    let e : suc n - 1 ≡ n = omega arith in
    subst (λ p. decl_at (suc n) o annots ts ≡ alter (declared o annots) (body_by (λ inside us. members_by (λ vs. member_with (λ q annotations ws. decl_at p q annotations ws) (suc n) inside vs) (suc n) us) (suc n)) ts) (sym e) refl

pub stops : (n k : ℕ) (inside : Bool) (f : Members → Members) (ts : List Token) → begins mark.CloseBrace ts ≡ true → with_members f (members_at n k inside ts) ≡ Some (f none, ts)
unfolding members_at
stops n zero inside f ts e = rw e refl
stops n (suc k) inside f ts e = rw e refl

pub fails : (n k : ℕ) (inside : Bool) (f : Members → Members) (ts : List Token) → begins mark.CloseBrace ts ≡ false → member_at n inside ts ≡ None → with_members f (members_at n k inside ts) ≡ None
unfolding members_at
fails n zero inside f ts e m = rw e refl
fails n (suc k) inside f ts e m = rw e (ap (λ r. with_members f (r >>= members_behind (members_by (λ vs. member_at n inside vs) k))) m)

one_ahead : (f m : Members → Members) (r : Read Members) → with_members f (r >>= joined m) ≡ with_members (λ ms. f (m ms)) r
one_ahead f m None = refl
one_ahead f m (Some r) = refl

same_ahead : (f g : Members → Members) → ((ms : Members) → f ms ≡ g ms) → (r : Read Members) → with_members f r ≡ with_members g r
same_ahead f g h None = refl
same_ahead f g h (Some r) = ap (λ ms. Some (ms, r.1)) (h r.0)

ahead_more : (fs : List (Members → Members)) (m : Members → Members) (ms : Members) → ahead_of (fs ++ m ∷ []) ms ≡ ahead_of fs (m ms)
ahead_more [] m ms = refl
ahead_more (f ∷ fs) m ms = ap f (ahead_more fs m ms)

pub goes_on : (n k : ℕ) (inside : Bool) (items new : List MemberTree) (x : MemberTree) (ts rest : List Token) → begins mark.CloseBrace ts ≡ false → 0 < k → member_at n inside ts ≡ Some (member_of x, rest) → new ≡ items ++ x ∷ []
    → with_members (ahead_of (map member_of new)) (members_at n (k - 1) inside rest) ≡ with_members (ahead_of (map member_of items)) (members_at n k inside ts)
unfolding members_at
goes_on n zero inside items new x ts rest e lt m is = absurd (omega arith)
goes_on n (suc k) inside items new x ts rest e lt m is =
    let z : suc k - 1 ≡ k = omega arith in
    let f : (ms : Members) → ahead_of (map member_of new) ms ≡ ahead_of (map member_of items) (member_of x ms)
    = λ ms. ap (λ xs. ahead_of (map member_of xs) ms) is ∙ ap (λ fs. ahead_of fs ms) (map-append member_of items (x ∷ [])) ∙ ahead_more (map member_of items) (member_of x) ms in
    rw (z, e) (sym (ap (λ r. with_members (ahead_of (map member_of items)) (r >>= members_behind (members_by (λ vs. member_at n inside vs) k))) m
    ∙ one_ahead (ahead_of (map member_of items)) (member_of x) (members_by (λ vs. member_at n inside vs) k rest)
    ∙ sym (same_ahead (ahead_of (map member_of new)) (λ ms. ahead_of (map member_of items) (member_of x ms)) f (members_by (λ vs. member_at n inside vs) k rest))))
