-- What the steps of the walk add.
use Rattle.std.specs.Prelude.{◌≡◌, ℕ, Bool, List, ◌++◌, map, Option, Some, None, slice_get}
use Rattle.std.specs.Borrow.{Bor}
use Rattle.std.specs.List.{find, flat_map}
use Rattle.std.specs.Option.{option_copied}
use Rattle.aidl_schema.specs.declared.schema.Decl.{Decl}
use Rattle.aidl_schema.specs.declared.schema.Method.{Method}
use Rattle.aidl_schema.specs.Same.{same_text}
use Rattle.aidl_schema.specs.Broken.{Break, Place, Rule, of_rule, place_if, C1, if_found, broken_by, same_name}
use Rattle.aidl_schema.specs.Names.{methods_of}
use Rattle.compat_judge.specs.declared.sides.Pair.{Pair}

-- what a declaration of old breaks
abbrev pub breaks_of : List Decl → List Decl → Decl → List Break
breaks_of old new d = of_rule 1 (C1 d new) ++ if_found (λ e. broken_by old d new e) (find (λ e. same_name d e) new)

-- what one of a list adds
abbrev pub break_if : {X : Type 0} → ℕ → (X → Place) → (X → Bool) → X → List Break
break_if rule place breaks x = of_rule rule (place_if (place x) (breaks x))

-- for each of some items the first of its name among others, if there is one
abbrev pub all_named : {X : Type 0} → (X → List ℕ) → List X → List X → List (Option X)
all_named name xs ys = map (λ x. find (λ y. same_text (name x) (name y)) ys) xs

-- They are for each method of old the one of its name in new, if there is one.
abbrev pub AreBeside : List (Option (Bor Method)) → Pair → Type 0
AreBeside afters p = map option_copied afters
    ≡ all_named (λ m. m.name.0) (methods_of p.before.now.kind) (methods_of p.after.now.kind)

-- the item at a place
abbrev pub item_at : {X : Type 0} → List X → Option ℕ → Option X
item_at xs None = None
item_at xs (Some i) = slice_get xs i

-- what a rule of this number gives of a pair
abbrev pub breaks_at : ℕ → Rule → Pair → List Break
breaks_at number rule p = of_rule number (rule p.old.now.decls p.before.now p.new.now.decls p.after.now)

-- what some rules give
abbrev pub breaks_in : List (ℕ × Rule) → Pair → List Break
breaks_in rules p = flat_map (λ r. breaks_at r.0 r.1 p) rules
