-- Names that were there before.
use Rattle.std.proofs.Common.{◌≡◌, ◌<◌, ◌+◌, ℕ, Bool, true, false, ◌||◌, List, [], ◌∷◌, ◌++◌, map, length, take, refl, sym, ◌∙◌, ap, subst, not, get_or, add-one, append_assoc, Bor, if◌then◌else◌}
use Rattle.std.specs.List.{list_any, flat_map}
use Rattle.std.specs.Str.{bytes_eq}
use Rattle.std.proofs.lemmas.List.{map-append}
use Rattle.std.proofs.lemmas.List.Folds.{list_any-append}
use Rattle.std.proofs.lemmas.Slice.Eq.{bytes_eq-Decides}
use Rattle.aidl_syntax.specs.declared.tree.DeclTree.{DeclTree}
use Rattle.aidl_syntax.specs.declared.tree.NameTree.{NameTree}
use Rattle.aidl_syntax.specs.Trees.{decl_of}
use Rattle.aidl_base.specs.declared.breach.Breach.{Breach}
use Rattle.aidl_syntax.specs.Members.{Member, members, member_name, body, declared_name}
use Rattle.declared_names.specs.Declarations.{Entry}
use Rattle.aidl_names.specs.Rules.{Spot, breach, breaches_at, is_named_again, repeated, repeated_inside, argument_names}
use Rattle.declared_names.proofs.lemmas.Earlier.{take-next}
use Rattle.declared_names.specs.Names.{text}
use Rattle.declared_names.proofs.lemmas.Trees.{seen_decl}

-- the name of a declaration
pub seen_name : (t : DeclTree) → declared_name (decl_of t) ≡ t.name
seen_name t = ap declared_name (seen_decl t)

-- What was seen, as keys and as names.
abbrev pub AreSeen : List (Bor (List ℕ)) → List NameTree → Type 0
AreSeen keys names = (t : List ℕ) → list_any (λ k. bytes_eq t k.now) keys ≡ list_any (λ m. bytes_eq t (text m.name)) names

same-answers : {Y : Type 0} (f : Y → List ℕ) (t v : List ℕ) (ys : List Y) → bytes_eq t v ≡ true → list_any (λ y. bytes_eq t (f y)) ys ≡ list_any (λ y. bytes_eq v (f y)) ys
same-answers f t v ys e = let q : t ≡ v = (bytes_eq-Decides t v).0 e in ap (λ (z : List ℕ). list_any (λ y. bytes_eq z (f y)) ys) q

absorb : (x q : Bool) → (q ≡ true → x ≡ true) → x ≡ (x || (q || false))
absorb true q h = refl
absorb false true h = h refl
absorb false false h = refl

any-same : {X : Type 0} (p q : X → Bool) → ((x : X) → p x ≡ q x) → (xs : List X) → list_any p xs ≡ list_any q xs
any-same p q h [] = refl
any-same p q h (x ∷ xs) = rw (h x, any-same p q h xs) refl

-- one more name is seen
pub seen-next : (test : Bor (List ℕ) → Bool) (keys new : List (Bor (List ℕ))) (v : Bor (List ℕ)) (names : List NameTree) (n : NameTree)
    → ((k : Bor (List ℕ)) → test k ≡ bytes_eq v.now k.now) → v.now ≡ text n.name → new ≡ (if list_any test keys then keys else keys ++ v ∷ []) → AreSeen keys names → AreSeen new (names ++ n ∷ [])
seen-next test keys new v names n h w e seen t =
    ap (list_any (λ (k : Bor (List ℕ)). bytes_eq t k.now)) e ∙ go (list_any test keys) refl ∙ sym (list_any-append (λ (m : NameTree). bytes_eq t (text m.name)) names (n ∷ [])) where
      go : (b : Bool) → b ≡ list_any test keys
          → list_any (λ (k : Bor (List ℕ)). bytes_eq t k.now) (if b then keys else keys ++ v ∷ []) ≡ (list_any (λ (m : NameTree). bytes_eq t (text m.name)) names || (bytes_eq t (text n.name) || false))
      go true q =
          seen t ∙ absorb _ (bytes_eq t (text n.name)) (λ r. same-answers (λ (m : NameTree). text m.name) t v.now names (ap (bytes_eq t) w ∙ r)
          ∙ sym (seen v.now) ∙ sym (any-same test (λ (k : Bor (List ℕ)). bytes_eq v.now k.now) h keys) ∙ sym q)
      go false q =
          list_any-append (λ (k : Bor (List ℕ)). bytes_eq t k.now) keys (v ∷ []) ∙ ap (λ z. z || (bytes_eq t v.now || false)) (seen t)
          ∙ ap (λ (z : List ℕ). list_any (λ (m : NameTree). bytes_eq t (text m.name)) names || (bytes_eq t z || false)) w

-- the answer of an insertion says whether the name was there
pub again-is : (test : Bor (List ℕ) → Bool) (keys : List (Bor (List ℕ))) (v : Bor (List ℕ)) (names : List NameTree) (n : NameTree) (added : Bool)
    → ((k : Bor (List ℕ)) → test k ≡ bytes_eq v.now k.now) → v.now ≡ text n.name → added ≡ not (list_any test keys) → AreSeen keys names → not added ≡ is_named_again names n
again-is test keys v names n added h w e seen =
    ap not e ∙ go (list_any test keys) ∙ any-same test (λ (k : Bor (List ℕ)). bytes_eq v.now k.now) h keys ∙ seen v.now ∙ ap (λ (z : List ℕ). list_any (λ (m : NameTree). bytes_eq z (text m.name)) names) w where
      go : (b : Bool) → not (not b) ≡ b
      go true = refl
      go false = refl

-- those that were seen, as the front of a list
pub seen-more : (test : Bor (List ℕ) → Bool) (keys new : List (Bor (List ℕ))) (v : Bor (List ℕ)) (names : List NameTree) (i : ℕ) (n : NameTree)
    → ((k : Bor (List ℕ)) → test k ≡ bytes_eq v.now k.now) → v.now ≡ text n.name → new ≡ (if list_any test keys then keys else keys ++ v ∷ [])
    → i < length names → n ≡ get_or names i n → AreSeen keys (take i names) → AreSeen new (take (i + 1) names)
seen-more test keys new v names i n h w e lt is seen =
    let P : List NameTree → Type 0 = AreSeen new in
    subst P (sym (take-next names i n lt is) ∙ ap (λ (j : ℕ). take j names) (sym (add-one i))) (seen-next test keys new v (take i names) n h w e seen)

-- the breaches inside a declaration: of its members, and of the arguments of each
pub inside_added : (e : Entry) (rows next all : List Breach) (names : List NameTree) (ms : List Member) → ms ≡ members (body e.tree) → names ≡ map member_name ms
    → next ≡ rows ++ breaches_at 2 (repeated e.file names) → all ≡ next ++ breaches_at 2 (flat_map (λ m. repeated e.file (argument_names m)) ms) → all ≡ rows ++ breaches_at 2 (repeated_inside e)
inside_added e rows next all names ms m n p q =
    let others = flat_map (λ m. repeated e.file (argument_names m)) ms in
    q ∙ ap (λ z. z ++ breaches_at 2 others) p ∙ append_assoc rows (breaches_at 2 (repeated e.file names)) (breaches_at 2 others)
    ∙ ap (λ z. rows ++ z) (sym (map-append (λ (s : Spot). breach 2 s.0 s.1) (repeated e.file names) others))
    ∙ ap (λ z. rows ++ breaches_at 2 (repeated e.file z ++ others)) n
    ∙ ap (λ z. rows ++ breaches_at 2 (repeated e.file (map member_name z) ++ flat_map (λ m. repeated e.file (argument_names m)) z)) m
