-- The names of the members that a declaration has in the schema weigh at most what those in its tree weigh, by every weight.
use Rattle.std.proofs.Common.{◌≡◌, ◌≤◌, ◌+◌, ℕ, Bool, true, false, if◌then◌else◌, ◌==◌, List, [], ◌∷◌, ◌++◌, map, filter, fold, Option, Some, None, slice_get, refl, sym, ap, ◌∙◌, arith, ◌||◌, le_of_eq}
use Rattle.std.proofs.lemmas.Bool.Decides.{nat_tests}
use Rattle.aidl_schema.specs.declared.schema.Constant.{Constant}
use Rattle.aidl_schema.specs.declared.schema.Decl as schema
use Rattle.aidl_schema.specs.Names.{is_inside, nested_in, last_part, member_names, field_names, method_names, enumerator_names, constant_names}
use Rattle.aidl_syntax.specs.Trees.{Body, Decl, Enumerator}
use Rattle.aidl_syntax.specs.Trees.Body.{parcelable, union, enum, interface}
use Rattle.aidl_syntax.specs.Members.{Member, members, listed, body, member_name, declared_name}
use Rattle.aidl_syntax.specs.Members.Member.{field, constant, method, enumerator, nested}
use Rattle.declared_names.specs.Declarations.{Entry, declarations}
use Rattle.aidl_syntax.specs.Sources.{Source}
use Rattle.const_values.specs.declared.wanted.Wanted.{Wanted}
use Rattle.type_shapes.specs.Backing.{backing_of}
use Rattle.tree_schema.specs.Numbers.{Numbered, sorted, number_of}
use Rattle.tree_schema.specs.Parts.{fields_in, methods_in, enumerator_in, listed_constants, constants_in, bytes_of, put}
use Rattle.tree_schema.specs.SchemaOf.{schema_of, declared, outer_of, kind_of}
use Rattle.tree_schema.specs.Values.{Outcomes}
use Rattle.tree_schema.proofs.lemmas.walked.Totals.{total, total-append, total-map, total-filter, total-enumerate, total-le_at}
use Rattle.tree_schema.proofs.lemmas.walked.Placed.{placed, all-total, placed-by}
use Rattle.tree_schema.proofs.walked.Outers.{are_named, walked, IsWalked}
use Rattle.tree_schema.proofs.walked.Nested.{nested_of, children-are}
use Rattle.tree_schema.proofs.lemmas.named.Numbers.{sorted-total, sorted-there, number-there}
use Rattle.tree_schema.proofs.lemmas.named.Schema.{last-inside}

-- what the name of a member weighs, and the same of the members of one kind alone
abbrev pub weight : (List ℕ → ℕ) → Member → ℕ
weight f m = f (member_name m).name.0

abbrev field_weight : (List ℕ → ℕ) → Member → ℕ
field_weight f (field x) = f x.name.name.0
field_weight f (constant c) = 0
field_weight f (method m) = 0
field_weight f (enumerator e) = 0
field_weight f (nested d) = 0

abbrev constant_weight : (List ℕ → ℕ) → Member → ℕ
constant_weight f (field x) = 0
constant_weight f (constant c) = f c.name.name.0
constant_weight f (method m) = 0
constant_weight f (enumerator e) = 0
constant_weight f (nested d) = 0

abbrev method_weight : (List ℕ → ℕ) → Member → ℕ
method_weight f (field x) = 0
method_weight f (constant c) = 0
method_weight f (method m) = f m.name.name.0
method_weight f (enumerator e) = 0
method_weight f (nested d) = 0

abbrev enumerator_weight : (List ℕ → ℕ) → Member → ℕ
enumerator_weight f (field x) = 0
enumerator_weight f (constant c) = 0
enumerator_weight f (method m) = 0
enumerator_weight f (enumerator e) = f e.name.name.0
enumerator_weight f (nested d) = 0

abbrev nested_weight : (List ℕ → ℕ) → Member → ℕ
nested_weight f (field x) = 0
nested_weight f (constant c) = 0
nested_weight f (method m) = 0
nested_weight f (enumerator e) = 0
nested_weight f (nested d) = f (declared_name d).name.0

-- each member is of one kind
by_kinds : (f : List ℕ → ℕ) (ms : List Member)
    → total (field_weight f) ms + (total (method_weight f) ms + (total (enumerator_weight f) ms + (total (constant_weight f) ms + total (nested_weight f) ms))) ≡ total (weight f) ms
by_kinds f [] = refl
by_kinds f (field x ∷ ms) = let h = by_kinds f ms in omega arith
by_kinds f (constant c ∷ ms) = let h = by_kinds f ms in omega arith
by_kinds f (method m ∷ ms) = let h = by_kinds f ms in omega arith
by_kinds f (enumerator e ∷ ms) = let h = by_kinds f ms in omega arith
by_kinds f (nested d ∷ ms) = let h = by_kinds f ms in omega arith

nested_weigh : (f : List ℕ → ℕ) (ms : List Member) → total (λ d. f (declared_name d).name.0) (nested_of ms) ≡ total (nested_weight f) ms
nested_weigh f [] = refl
nested_weigh f (field x ∷ ms) = let h = nested_weigh f ms in omega arith
nested_weigh f (constant c ∷ ms) = let h = nested_weigh f ms in omega arith
nested_weigh f (method m ∷ ms) = let h = nested_weigh f ms in omega arith
nested_weigh f (enumerator e ∷ ms) = let h = nested_weigh f ms in omega arith
nested_weigh f (nested d ∷ ms) = let h = nested_weigh f ms in omega arith

enumerators_weigh : (f : List ℕ → ℕ) (files : List Source) (outcomes : Outcomes) (file : ℕ) (es : List Enumerator)
    → total f (map (λ e. e.name.0) (map (enumerator_in files outcomes file) es)) ≡ total (enumerator_weight f) (map enumerator es)
enumerators_weigh f files outcomes file [] = refl
enumerators_weigh f files outcomes file (e ∷ es) = let h = enumerators_weigh f files outcomes file es in omega arith

module _ (f : List ℕ → ℕ) (files : List Source) (outcomes : Outcomes) (file scope : ℕ) where
  fields_weigh : (in_union later : Bool) (ms : List Member) → total f (map (λ x. x.name.0) (fields_in files outcomes file scope in_union later ms)) ≡ total (field_weight f) ms
  fields_weigh in_union later [] = refl
  fields_weigh in_union later (field x ∷ ms) = let h = fields_weigh in_union (later || in_union) ms in omega arith
  fields_weigh in_union later (constant c ∷ ms) = let h = fields_weigh in_union later ms in omega arith
  fields_weigh in_union later (method m ∷ ms) = let h = fields_weigh in_union later ms in omega arith
  fields_weigh in_union later (enumerator e ∷ ms) = let h = fields_weigh in_union later ms in omega arith
  fields_weigh in_union later (nested d ∷ ms) = let h = fields_weigh in_union later ms in omega arith

  methods_weigh : (oneway : Bool) (before : ℕ) (ms : List Member) → total f (map (λ m. m.name.0) (methods_in files file scope oneway before ms)) ≡ total (method_weight f) ms
  methods_weigh oneway before [] = refl
  methods_weigh oneway before (field x ∷ ms) = let h = methods_weigh oneway before ms in omega arith
  methods_weigh oneway before (constant c ∷ ms) = let h = methods_weigh oneway before ms in omega arith
  methods_weigh oneway before (method m ∷ ms) = let h = methods_weigh oneway (before + 1) ms in omega arith
  methods_weigh oneway before (enumerator e ∷ ms) = let h = methods_weigh oneway before ms in omega arith
  methods_weigh oneway before (nested d ∷ ms) = let h = methods_weigh oneway before ms in omega arith

  listed_weigh : (ms : List Member) → total (λ c. f c.name.0) (listed_constants files outcomes file scope ms) ≡ total (constant_weight f) ms
  listed_weigh [] = refl
  listed_weigh (field x ∷ ms) = let h = listed_weigh ms in omega arith
  listed_weigh (constant c ∷ ms) = let h = listed_weigh ms in omega arith
  listed_weigh (method m ∷ ms) = let h = listed_weigh ms in omega arith
  listed_weigh (enumerator e ∷ ms) = let h = listed_weigh ms in omega arith
  listed_weigh (nested d ∷ ms) = let h = listed_weigh ms in omega arith

-- the constants stand each at the place of its name
pub constants-are : (files : List Source) (outcomes : Outcomes) (file scope : ℕ) (ms : List Member) → constants_in files outcomes file scope ms ≡ fold (placed bytes_of) [] (listed_constants files outcomes file scope ms)
constants-are files outcomes file scope ms = placed-by bytes_of put (λ c. refl) (λ d more c. refl) [] (listed_constants files outcomes file scope ms)

constants_weigh : (f : List ℕ → ℕ) (files : List Source) (outcomes : Outcomes) (file scope : ℕ) (ms : List Member) → total f (map (λ c. c.name.0) (constants_in files outcomes file scope ms)) ≤ total (constant_weight f) ms
constants_weigh f files outcomes file scope ms =
    let names = total-map f (λ (c : Constant). c.name.0) (constants_in files outcomes file scope ms) in
    let same = ap (total (λ (c : Constant). f c.name.0)) (constants-are files outcomes file scope ms) in
    let le = all-total bytes_of (λ (c : Constant). f c.name.0) [] (listed_constants files outcomes file scope ms) in
    let all = listed_weigh f files outcomes file scope ms in
    omega arith

module _ (f : List ℕ → ℕ) (files : List Source) (outcomes : Outcomes) (file number : ℕ) (backed : Wanted) where
  kinds_weigh : (b : Body) → (total f (field_names (kind_of files outcomes file number backed b)) ≤ total (field_weight f) (members b))
      × (total f (method_names (kind_of files outcomes file number backed b)) ≤ total (method_weight f) (members b))
      × (total f (enumerator_names (kind_of files outcomes file number backed b)) ≤ total (enumerator_weight f) (members b))
  kinds_weigh (parcelable ms) = let h = fields_weigh f files outcomes file number false false (listed ms) in (omega arith, omega arith, omega arith)
  kinds_weigh (union ms) = let h = fields_weigh f files outcomes file number true false (listed ms) in (omega arith, omega arith, omega arith)
  kinds_weigh (enum es) = let h = enumerators_weigh f files outcomes file es in (omega arith, omega arith, omega arith)
  kinds_weigh (interface oneway ms) = let h = methods_weigh f files outcomes file number oneway 0 (listed ms) in (omega arith, omega arith, omega arith)

module _ (f : List ℕ → ℕ) (files : List Source) (outcomes : Outcomes) (named : are_named files ≡ true) (n : ℕ) (x : Numbered) (at : slice_get (sorted (declarations files)) n ≡ Some x) where
  -- what is inside in the schema is inside in the trees
  inside_weighs : (e : Entry) (o : Option ℕ) (i : ℕ) → IsWalked (declarations files) i e
      → (if is_inside n (outer_of (declarations files) o) then f (last_part e.name) else 0) ≤ (if is_inside x.0 o then f (declared_name e.tree).name.0 else 0)
  inside_weighs e None i w = omega arith
  inside_weighs e (Some j) i w = by (number_of (declarations files) j) refl where
    same : f (last_part e.name) ≡ f (declared_name e.tree).name.0
    same = ap f (ap last_part w.name ∙ last-inside w.front (declared_name e.tree).name)

    by : (r : Option ℕ) → number_of (declarations files) j ≡ r → (if is_inside n r then f (last_part e.name) else 0) ≤ (if is_inside x.0 (Some j) then f (declared_name e.tree).name.0 else 0)
    by None q = omega arith
    by (Some m) q = at_place (m == n) refl where
      at_place : (b : Bool) → (m == n) ≡ b → (if b then f (last_part e.name) else 0) ≤ (if j == x.0 then f (declared_name e.tree).name.0 else 0)
      at_place false t = omega arith
      at_place true t =
          let is : m ≡ n = grind (arith, nat_tests) in
          let there = number-there (declarations files) j m q in
          let option : Some (j, there.0) ≡ Some x = sym there.1 ∙ ap (slice_get (sorted (declarations files))) is ∙ at in
          let whole : (let y : Numbered = (j, there.0) in y) ≡ x = cc in
          let number : j ≡ x.0 = ap (λ (y : Numbered). y.0) whole in
          let yes_it : (j == x.0) ≡ true = grind (arith, nat_tests) in
          rw yes_it (le_of_eq same)

  nested_names_weigh : total f (map (λ e. last_part e.name.0) (nested_in (schema_of files outcomes) n)) ≤ total (nested_weight f) (members (body x.1.tree))
  nested_names_weigh =
      let S = schema_of files outcomes in
      let entries = declarations files in
      let one = total-map f (λ (d : schema.Decl). last_part d.name.0) (nested_in S n) in
      let two = total-filter (λ (d : schema.Decl). f (last_part d.name.0)) (λ d. is_inside n d.outer) S in
      let three = total-map (λ (d : schema.Decl). if is_inside n d.outer then f (last_part d.name.0) else 0) (declared files outcomes) (sorted entries) in
      let four = sorted-total (λ y. if is_inside n (outer_of entries y.1.outer) then f (last_part y.1.name) else 0) entries in
      let five = total-enumerate (λ (e : Entry). if is_inside n (outer_of entries e.outer) then f (last_part e.name) else 0) 0 entries in
      let six = total-le_at (λ (e : Entry). if is_inside n (outer_of entries e.outer) then f (last_part e.name) else 0) (λ e. if is_inside x.0 e.outer then f (declared_name e.tree).name.0 else 0) entries
      (λ i e there. inside_weighs e e.outer i (walked files named i e there)) in
      let seven = total-filter (λ (e : Entry). f (declared_name e.tree).name.0) (λ e. is_inside x.0 e.outer) entries in
      let eight = total-map (λ (d : Decl). f (declared_name d).name.0) (λ (e : Entry). e.tree) (filter (λ (e : Entry). is_inside x.0 e.outer) entries) in
      let nine = ap (total (λ (d : Decl). f (declared_name d).name.0)) (children-are files x.0 x.1 (sorted-there entries n x at)) in
      let ten = nested_weigh f (members (body x.1.tree)) in
      omega arith

  -- the names of the members in the schema weigh at most what the names of the members of the tree weigh
  pub member_names-weigh : total f (member_names (schema_of files outcomes) n (declared files outcomes x)) ≤ total (weight f) (members (body x.1.tree))
  member_names-weigh =
      let d = declared files outcomes x in
      let nested_names = map (λ (e : schema.Decl). last_part e.name.0) (nested_in (schema_of files outcomes) n) in
      let one = total-append f (field_names d.kind) (method_names d.kind ++ (enumerator_names d.kind ++ (constant_names d ++ nested_names))) in
      let two = total-append f (method_names d.kind) (enumerator_names d.kind ++ (constant_names d ++ nested_names)) in
      let three = total-append f (enumerator_names d.kind) (constant_names d ++ nested_names) in
      let four = total-append f (constant_names d) nested_names in
      let kinds = kinds_weigh f files outcomes x.1.file x.0 (backing_of x.1.tree) (body x.1.tree) in
      let constants = constants_weigh f files outcomes x.1.file x.0 (members (body x.1.tree)) in
      let inner = nested_names_weigh in
      let all = by_kinds f (members (body x.1.tree)) in
      omega arith
