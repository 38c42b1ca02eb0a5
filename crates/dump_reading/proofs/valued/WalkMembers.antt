-- The fields and the constants that members give, one after the other beside those of the schema.
use Rattle.std.proofs.Common.{◌≡◌, ℕ, Bool, true, false, ◌||◌, List, [], ◌∷◌, ◌++◌, map, None, refl, sym, ap, ◌∙◌}
use Rattle.std.specs.List.{list_all}
use Rattle.std.proofs.lemmas.Bool.{and_parts}
use Rattle.aidl_syntax.specs.Trees as tree
use Rattle.aidl_syntax.specs.Members.{Member}
use Rattle.aidl_syntax.specs.Members.Member.{field, constant, method, enumerator, nested}
use Rattle.aidl_syntax.specs.Sources.{Source}
use Rattle.const_items.specs.Items.{Item, of_field, of_constant, of_members}
use Rattle.tree_schema.specs.Parts.{field_in, fields_in, constant_in, listed_constants}
use Rattle.tree_schema.specs.Values.{Outcomes}
use Rattle.tree_schema.proofs.lemmas.walked.Placed.{Each}
use Rattle.aidl_schema.specs.declared.schema.Decl.{Decl}
use Rattle.aidl_schema.specs.declared.schema.Field.{Field}
use Rattle.aidl_schema.specs.declared.schema.Constant.{Constant}
use Rattle.aidl_schema.specs.Methods.{is_field_type}
use Rattle.aidl_schema.specs.Valid.{has_value, has_initializer_of}
use Rattle.dump_reading.specs.Bare.{bare_field, bare_constant}
use Rattle.dump_reading.specs.DumpTrees.{field_tree, constant_tree}
use Rattle.dump_reading.proofs.named.Members.{bare_member, all_bare}
use Rattle.dump_reading.proofs.settled.Members.{AreFields}

pub each_split : {X : Type 0} (P : X → Type 0) (xs ys : List X) → Each P (xs ++ ys) → Each P xs × Each P ys
each_split P [] ys h = (tt, h)
each_split P (x ∷ xs) ys h = let two = each_split P xs ys h.1 in ((h.0, two.0), two.1)

abbrev pub is_no_field : Member → Bool
is_no_field (field f) = false
is_no_field _ = true

abbrev pub is_no_constant : Member → Bool
is_no_constant (constant c) = false
is_no_constant _ = true

pub field_bare : (m : Member) → is_no_field (bare_member m) ≡ is_no_field m
field_bare (field f) = refl
field_bare (constant c) = refl
field_bare (method m) = refl
field_bare (enumerator e) = refl
field_bare (nested d) = refl

constant_bare : (m : Member) → is_no_constant (bare_member m) ≡ is_no_constant m
constant_bare (field f) = refl
constant_bare (constant c) = refl
constant_bare (method m) = refl
constant_bare (enumerator e) = refl
constant_bare (nested d) = refl

pub enumerators_free : (ys : List tree.Enumerator) → list_all is_no_constant (map enumerator ys) ≡ true
enumerators_free [] = refl
enumerators_free (y ∷ ys) = enumerators_free ys

module _ (S : List Decl) (files : List Source) (outcomes : Outcomes) (file scope : ℕ) (P : Item → Type 0) where
  no_fields : (in_union later : Bool) (ms : List Member) → list_all is_no_field ms ≡ true → fields_in files outcomes file scope in_union later ms ≡ []
  no_fields in_union later [] h = refl
  no_fields in_union later (field f ∷ ms) h = cc
  no_fields in_union later (constant c ∷ ms) h = no_fields in_union later ms h
  no_fields in_union later (method m ∷ ms) h = no_fields in_union later ms h
  no_fields in_union later (enumerator e ∷ ms) h = no_fields in_union later ms h
  no_fields in_union later (nested d ∷ ms) h = no_fields in_union later ms h

  pub no_constants : (ms : List Member) → list_all is_no_constant ms ≡ true → listed_constants files outcomes file scope ms ≡ []
  no_constants [] h = refl
  no_constants (field f ∷ ms) h = no_constants ms h
  no_constants (constant c ∷ ms) h = cc
  no_constants (method m ∷ ms) h = no_constants ms h
  no_constants (enumerator e ∷ ms) h = no_constants ms h
  no_constants (nested d ∷ ms) h = no_constants ms h

  -- what holds of each field of the trees beside that of the schema
  abbrev pub OfFields : {X : Type 0} → (Field → X) → Type 0
  OfFields g = (later : Bool) (f : Field) → is_field_type S f ≡ true → has_initializer_of S f.ty f.initial ≡ true → (later ≡ true → f.initial ≡ None) → (x : tree.Field) → bare_field x ≡ field_tree S f
      → Each P (of_field files file scope later x) → g (field_in files outcomes file scope later x) ≡ g f

  pub fields_walk : {X : Type 0} (g : Field → X) → OfFields g → (in_union later : Bool) (fs : List Field) → AreFields S in_union later fs → (more : List Member) → list_all is_no_field more ≡ true
      → (ms : List Member) → map bare_member ms ≡ map (λ f. field (field_tree S f)) fs ++ more → Each P (of_members files file scope in_union later ms) → map g (fields_in files outcomes file scope in_union later ms) ≡ map g fs
  fields_walk g one in_union later [] h more none ms e st = ap (map g) (no_fields in_union later ms (sym (all_bare is_no_field field_bare ms) ∙ ap (list_all is_no_field) e ∙ none))
  fields_walk g one in_union later (f ∷ fs) h more none [] e st = cc
  fields_walk g one in_union later (f ∷ fs) h more none (field x ∷ ms) e st =
      let here : bare_field x ≡ field_tree S f = cc in let others : map bare_member ms ≡ map (λ f. field (field_tree S f)) fs ++ more = cc in
      let two = each_split P (of_field files file scope later x) (of_members files file scope in_union (later || in_union) ms) st in
      ap (λ y. y ∷ map g (fields_in files outcomes file scope in_union (later || in_union) ms)) (one later f h.0 h.1 h.2 x here two.0)
      ∙ ap (λ ys. g f ∷ ys) (fields_walk g one in_union (later || in_union) fs h.3 more none ms others two.1)
  fields_walk g one in_union later (f ∷ fs) h more none (constant x ∷ ms) e st = cc
  fields_walk g one in_union later (f ∷ fs) h more none (method x ∷ ms) e st = cc
  fields_walk g one in_union later (f ∷ fs) h more none (enumerator x ∷ ms) e st = cc
  fields_walk g one in_union later (f ∷ fs) h more none (nested x ∷ ms) e st = cc

  abbrev pub OfConstants : {X : Type 0} → (Constant → X) → Type 0
  OfConstants g = (c : Constant) → has_value S c ≡ true → (x : tree.Constant) → bare_constant x ≡ constant_tree S c → P (of_constant files file scope x) → g (constant_in files outcomes file scope x) ≡ g c

  constants_here : {X : Type 0} (g : Constant → X) → OfConstants g → (in_union later : Bool) (cs : List Constant) → list_all (λ c. has_value S c) cs ≡ true → (more : List Member) → list_all is_no_constant more ≡ true
      → (ms : List Member) → map bare_member ms ≡ map (λ c. constant (constant_tree S c)) cs ++ more → Each P (of_members files file scope in_union later ms) → map g (listed_constants files outcomes file scope ms) ≡ map g cs
  constants_here g one in_union later [] h more none ms e st = ap (map g) (no_constants ms (sym (all_bare is_no_constant constant_bare ms) ∙ ap (list_all is_no_constant) e ∙ none))
  constants_here g one in_union later (c ∷ cs) h more none [] e st = cc
  constants_here g one in_union later (c ∷ cs) h more none (constant x ∷ ms) e st =
      let two = and_parts (has_value S c) (list_all (λ c. has_value S c) cs) h in
      let here : bare_constant x ≡ constant_tree S c = cc in let others : map bare_member ms ≡ map (λ c. constant (constant_tree S c)) cs ++ more = cc in
      ap (λ y. y ∷ map g (listed_constants files outcomes file scope ms)) (one c two.0 x here st.0) ∙ ap (λ ys. g c ∷ ys) (constants_here g one in_union later cs two.1 more none ms others st.1)
  constants_here g one in_union later (c ∷ cs) h more none (field x ∷ ms) e st = cc
  constants_here g one in_union later (c ∷ cs) h more none (method x ∷ ms) e st = cc
  constants_here g one in_union later (c ∷ cs) h more none (enumerator x ∷ ms) e st = cc
  constants_here g one in_union later (c ∷ cs) h more none (nested x ∷ ms) e st = cc

  -- constants, behind what isn't any
  pub constants_walk : {X : Type 0} (g : Constant → X) → OfConstants g → (in_union later : Bool) (own : List Member) → list_all is_no_constant own ≡ true → (cs : List Constant) → list_all (λ c. has_value S c) cs ≡ true
      → (more : List Member) → list_all is_no_constant more ≡ true → (ms : List Member) → map bare_member ms ≡ own ++ (map (λ c. constant (constant_tree S c)) cs ++ more)
      → Each P (of_members files file scope in_union later ms) → map g (listed_constants files outcomes file scope ms) ≡ map g cs
  constants_walk g one in_union later [] n cs h more none ms e st = constants_here g one in_union later cs h more none ms e st
  constants_walk g one in_union later (o ∷ own) n cs h more none [] e st = cc
  constants_walk g one in_union later (o ∷ own) n cs h more none (m ∷ ms) e st =
      let head : bare_member m ≡ o = cc in let others : map bare_member ms ≡ own ++ (map (λ c. constant (constant_tree S c)) cs ++ more) = cc in
      let two = and_parts (is_no_constant o) (list_all is_no_constant own) n in
      by m (sym (constant_bare m) ∙ ap is_no_constant head ∙ two.0) st (λ later st. constants_walk g one in_union later own two.1 cs h more none ms others st) where
        by : (m : Member) → is_no_constant m ≡ true → Each P (of_members files file scope in_union later (m ∷ ms)) → ((later : Bool) → Each P (of_members files file scope in_union later ms) → map g (listed_constants files outcomes file scope ms) ≡ map g cs)
            → map g (listed_constants files outcomes file scope (m ∷ ms)) ≡ map g cs
        by (field f) k st rest = rest (later || in_union) (each_split P (of_field files file scope later f) (of_members files file scope in_union (later || in_union) ms) st).1
        by (constant c) k st rest = cc
        by (method x) k st rest = rest later st
        by (enumerator x) k st rest = rest later st
        by (nested x) k st rest = rest later st
