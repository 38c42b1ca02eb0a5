-- What `parse` answers, by the productions.
use Rattle.std.proofs.Common.{◌≡◌, List, Option, Some, None, Result, Ok, Err, IfOk, IfErr, refl, sym, ap, subst, ◌∙◌}
use Rattle.aidl_base.specs.declared.limit.Limit.{Limit}
use Rattle.aidl_base.specs.declared.limit.LimitName.{LimitName}
use Rattle.aidl_syntax.specs.declared.token.Token.{Token}
use Rattle.aidl_syntax.specs.declared.tree.FileTree.{FileTree}
use Rattle.aidl_syntax.specs.Trees.{File, file_of}
use Rattle.aidl_syntax.specs.Productions.{IsFile, Tree}
use Rattle.expr_parser.specs.declared.fault.ParseFault.{ParseFault}
use Rattle.expr_parser.specs.declared.fault.ParseFault.TheVariants as fault
use Rattle.expr_parser.specs.Gives.{Gives}
use Rattle.aidl_parser.specs.Limits.{passed}
use Rattle.aidl_parser.specs.steps.Decls.{whole_of}
use Rattle.aidl_parser.specs.Refusals.{IsRefusal}
use Rattle.aidl_parser.specs.steps.Answers.{Answers}
use Rattle.aidl_parser.proofs.productions.WholeFiles.{whole_told, whole_found}

abbrev Answer : Type 0
Answer = Result FileTree ParseFault

tree_by : (ts : List Token) (p : Option LimitName) (r : Answer) → passed ts ≡ p → Answers p (whole_of ts) r → IfOk r (λ tree. (passed ts ≡ None) × Tree ts tree)
tree_by ts p (Err e) h a = tt
tree_by ts (Some name) (Ok tree) h a = cc
tree_by ts None (Ok tree) h a = (h, whole_told ts (file_of tree) a)

pub tree : (ts : List Token) (r : Answer) → Answers (passed ts) (whole_of ts) r → IfOk r (λ tree. (passed ts ≡ None) × Tree ts tree)
tree ts r a = tree_by ts (passed ts) r refl a

pub only_tree : (ts : List Token) (r : Answer) → Answers (passed ts) (whole_of ts) r → (f : File) → passed ts ≡ None → IsFile ts f → Gives file_of r (Some f)
only_tree ts r a f none h = subst (Gives file_of r) (whole_found ts f h) (subst (λ p. Answers p (whole_of ts) r) none a)

none_some : (f : File) → ◌≡◌ {A = Option File} None (Some f) → ⊥
none_some f e = cc

same_limit : (name : LimitName) (l : Limit) → ◌≡◌ {A = Answer} (Err (fault.Limit l)) (Err (fault.Limit (record { which = name }))) → name ≡ l.which
same_limit name l e = let m : ◌≡◌ {A = Limit} l (record { which = name }) = cc in ap (λ k. k.which) (sym m)

refusal_by : (ts : List Token) (p : Option LimitName) (r : Answer) → passed ts ≡ p → Answers p (whole_of ts) r → IfErr r (IsRefusal ts)
refusal_by ts p (Ok tree) h a = tt
refusal_by ts (Some name) (Err (fault.Limit l)) h a = h ∙ ap Some (same_limit name l a)
refusal_by ts (Some name) (Err fault.Syntax) h a = cc
refusal_by ts (Some name) (Err fault.OutOfMemory) h a = tt
refusal_by ts None (Err (fault.Limit l)) h a = absurd a
refusal_by ts None (Err fault.Syntax) h a = (h, λ f i. absurd (none_some f (sym a ∙ whole_found ts f i)))
refusal_by ts None (Err fault.OutOfMemory) h a = tt

pub refusal : (ts : List Token) (r : Answer) → Answers (passed ts) (whole_of ts) r → IfErr r (IsRefusal ts)
refusal ts r a = refusal_by ts (passed ts) r refl a

pub only_limit : (ts : List Token) (r : Answer) → Answers (passed ts) (whole_of ts) r → (name : LimitName) → passed ts ≡ Some name → r ≡ Err (fault.Limit (record { which = name }))
only_limit ts r a name h = subst (λ p. Answers p (whole_of ts) r) h a

no_tree : (ts : List Token) (o : Option File) → whole_of ts ≡ o → ((f : File) → IsFile ts f → ⊥) → o ≡ None
no_tree ts None e h = refl
no_tree ts (Some f) e h = absurd (h f (whole_told ts f e))

pub only_syntax : (ts : List Token) (r : Answer) → Answers (passed ts) (whole_of ts) r → passed ts ≡ None → ((f : File) → IsFile ts f → ⊥) → Gives {Y = File} file_of r None
only_syntax ts r a none h = subst (Gives file_of r) (no_tree ts (whole_of ts) refl h) (subst (λ p. Answers p (whole_of ts) r) none a)

pub one_tree : (ts : List Token) (a b : File) → IsFile ts a → IsFile ts b → a ≡ b
one_tree ts a b h g = let x = whole_found ts a h in let y = whole_found ts b g in cc
