-- Rule 2 of a valid schema: the names of the members of each declaration of a tree without breaches.
use Rattle.std.proofs.Common.{IsTrue, ◌≡◌, ◌≤◌, ◌+◌, ℕ, suc, Bool, true, List, [], ◌∷◌, map, fold, Some, slice_get, refl, sym, ap, ◌∙◌, subst, arith}
use Rattle.std.specs.List.{list_all, enumerate_from}
use Rattle.std.proofs.lemmas.List.Folds.{list_all-map}
use Rattle.aidl_base.specs.Identifiers.{is_identifier}
use Rattle.aidl_base.proofs.lemmas.Tests.{both, all_at}
use Rattle.aidl_schema.specs.declared.schema.Constant.{Constant}
use Rattle.aidl_schema.specs.declared.schema.Decl as schema
use Rattle.aidl_schema.specs.Names.{has_members, has_member_names, each_numbered, are_names, are_distinct, are_identifiers, are_ascending, member_names, argument_names, methods_of}
use Rattle.aidl_schema.specs.Same.{same_text}
use Rattle.aidl_syntax.specs.Trees.{Body, Arg}
use Rattle.aidl_syntax.specs.Trees.Body.{parcelable, union, enum, interface}
use Rattle.aidl_syntax.specs.Members.{Member, members, listed, body, member_name}
use Rattle.aidl_syntax.specs.Members.Member.{field, constant, method, enumerator, nested}
use Rattle.aidl_names.specs.Breaches.{breaches}
use Rattle.declared_names.specs.Declarations.{declarations}
use Rattle.aidl_names.specs.Rules as rules
use Rattle.aidl_syntax.specs.Sources.{Source}
use Rattle.const_values.specs.declared.wanted.Wanted.{Wanted}
use Rattle.type_shapes.specs.Backing.{backing_of}
use Rattle.tree_schema.specs.Numbers.{Numbered, sorted}
use Rattle.tree_schema.specs.Parts.{methods_in, arg_in, listed_constants, constants_in, bytes_of}
use Rattle.tree_schema.specs.SchemaOf.{schema_of, declared, kind_of}
use Rattle.tree_schema.specs.Values.{Outcomes}
use Rattle.tree_schema.proofs.lemmas.walked.Totals.{total, total-map, misses, misses-none, all-by_misses, is_that, distinct-by_counts}
use Rattle.tree_schema.proofs.lemmas.walked.Placed.{placed, all-all, all-ascending}
use Rattle.tree_schema.proofs.lemmas.walked.Ascii.{is_identifier_part, plain-identifier}
use Rattle.tree_schema.proofs.walked.Outers.{are_named, walked}
use Rattle.tree_schema.proofs.walked.Breaches.{name_text, members-once, arguments-once}
use Rattle.tree_schema.proofs.lemmas.named.Numbers.{sorted-there}
use Rattle.tree_schema.proofs.lemmas.named.Schema.{schema-there}
use Rattle.tree_schema.proofs.named.MemberNames.{argument_text, has_argument_names, is_member_named, members-named}
use Rattle.tree_schema.proofs.named.MemberWeights.{member_names-weigh, constants-are}
use Rattle.tree_schema.proofs.lemmas.walked.Lists.{all-from_at, same-maps}
use Rattle.std.proofs.lemmas.Simd.{map-map}

-- a test of each declaration with its number
numbered_from : (test : ℕ → schema.Decl → Bool) (k : ℕ) (S : List schema.Decl) → ((n : ℕ) (d : schema.Decl) → slice_get S n ≡ Some d → test (k + n) d ≡ true) → list_all (λ x. test x.0 x.1) (enumerate_from k S) ≡ true
numbered_from test k [] h = refl
numbered_from test k (d ∷ S) h =
    let at : k + 0 ≡ k = omega arith in
    let here : test k d ≡ true = ap (λ (j : ℕ). test j d) (sym at) ∙ h 0 d refl in
    let rest = numbered_from test (k + 1) S (λ n e there. let on : (k + 1) + n ≡ k + suc n = omega arith in ap (λ (j : ℕ). test j e) on ∙ h (suc n) e there) in
    rw (here, rest) refl

pub numbered-from_at : (test : ℕ → schema.Decl → Bool) (S : List schema.Decl) → ((n : ℕ) (d : schema.Decl) → slice_get S n ≡ Some d → test n d ≡ true) → each_numbered test S ≡ true
numbered-from_at test S h = numbered_from test 0 S (λ n d there. let at : 0 + n ≡ n = omega arith in ap (λ (j : ℕ). test j d) at ∙ h n d there)

-- the arguments of a method have distinct identifiers as names
abbrev has_names_inside : Member → Bool
has_names_inside (method m) = are_names (map argument_text m.args)
has_names_inside (field f) = true
has_names_inside (constant c) = true
has_names_inside (enumerator e) = true
has_names_inside (nested d) = true

methods_hold : (files : List Source) (file scope : ℕ) (oneway : Bool) (before : ℕ) (ms : List Member) → list_all has_names_inside ms ≡ true
    → list_all (λ m. are_names (argument_names m)) (methods_in files file scope oneway before ms) ≡ true
methods_hold files file scope oneway before [] h = refl
methods_hold files file scope oneway before (field f ∷ ms) h = methods_hold files file scope oneway before ms h
methods_hold files file scope oneway before (constant c ∷ ms) h = methods_hold files file scope oneway before ms h
methods_hold files file scope oneway before (enumerator e ∷ ms) h = methods_hold files file scope oneway before ms h
methods_hold files file scope oneway before (nested d ∷ ms) h = methods_hold files file scope oneway before ms h
methods_hold files file scope oneway before (method m ∷ ms) h =
    let two = both (are_names (map argument_text m.args)) (list_all has_names_inside ms) h in
    let names : are_names (map (λ a. a.name.0) (map (arg_in files file scope) m.args)) ≡ true = ap are_names (map-map (λ a. a.name.0) (arg_in files file scope) m.args) ∙ two.0 in
    rw (names, methods_hold files file scope oneway (before + 1) ms two.1) refl

kind_methods : (files : List Source) (outcomes : Outcomes) (file number : ℕ) (backed : Wanted) (b : Body) → list_all has_names_inside (members b) ≡ true
    → list_all (λ m. are_names (argument_names m)) (methods_of (kind_of files outcomes file number backed b)) ≡ true
kind_methods files outcomes file number backed (parcelable ms) h = refl
kind_methods files outcomes file number backed (union ms) h = refl
kind_methods files outcomes file number backed (enum es) h = refl
kind_methods files outcomes file number backed (interface oneway ms) h = methods_hold files file number oneway 0 (listed ms) h

constants_named : (files : List Source) (outcomes : Outcomes) (file scope : ℕ) (ms : List Member) → list_all is_member_named ms ≡ true → list_all (λ c. is_identifier c.name.0) (listed_constants files outcomes file scope ms) ≡ true
constants_named files outcomes file scope [] h = refl
constants_named files outcomes file scope (field f ∷ ms) h = constants_named files outcomes file scope ms (both (is_member_named (field f)) _ h).1
constants_named files outcomes file scope (method m ∷ ms) h = constants_named files outcomes file scope ms (both (is_member_named (method m)) _ h).1
constants_named files outcomes file scope (enumerator e ∷ ms) h = constants_named files outcomes file scope ms (both (is_member_named (enumerator e)) _ h).1
constants_named files outcomes file scope (nested d ∷ ms) h = constants_named files outcomes file scope ms (both (is_member_named (nested d)) _ h).1
constants_named files outcomes file scope (constant c ∷ ms) h =
    let two = both (is_member_named (constant c)) (list_all is_member_named ms) h in
    rw ((both (is_identifier_part c.name.name) true two.0).0, constants_named files outcomes file scope ms two.1) refl

constants_ascend : (files : List Source) (outcomes : Outcomes) (file scope : ℕ) (ms : List Member) → list_all is_member_named ms ≡ true
    → are_ascending (map (λ c. c.name.0) (constants_in files outcomes file scope ms)) ≡ true
constants_ascend files outcomes file scope ms h =
    let placed_all = fold (placed bytes_of) [] (listed_constants files outcomes file scope ms) in
    let identifiers = all-all bytes_of (λ (c : Constant). is_identifier c.name.0) (listed_constants files outcomes file scope ms) (constants_named files outcomes file scope ms h) in
    ap (λ cs. are_ascending (map (λ (c : Constant). c.name.0) cs)) (constants-are files outcomes file scope ms)
    ∙ ap are_ascending (same-maps (λ (c : Constant). c.name.0) bytes_of placed_all (λ n c at. sym (plain-identifier c.name.0 (all_at (λ (x : Constant). is_identifier x.name.0) placed_all n c identifiers at))))
    ∙ all-ascending bytes_of [] (listed_constants files outcomes file scope ms) refl

module _ (files : List Source) (outcomes : Outcomes) (named : are_named files ≡ true) (unbroken : breaches files ≡ [])
    (n : ℕ) (x : Numbered) (at : slice_get (sorted (declarations files)) n ≡ Some x) where
  there : slice_get (declarations files) x.0 ≡ Some x.1
  there = sorted-there (declarations files) n x at

  all_named : list_all is_member_named (members (body x.1.tree)) ≡ true
  all_named = members-named x.1.tree (walked files named x.0 x.1 there).tree

  distinct : are_distinct same_text (member_names (schema_of files outcomes) n (declared files outcomes x)) ≡ true
  distinct = distinct-by_counts (member_names (schema_of files outcomes) n (declared files outcomes x)) (λ t.
      let le = member_names-weigh (is_that t) files outcomes named n x at in
      let once = members-once files unbroken x.0 x.1 there t in
      let same = total-map (λ m. is_that t (name_text m)) member_name (members (body x.1.tree)) in
      omega arith)

  identifiers : are_identifiers (member_names (schema_of files outcomes) n (declared files outcomes x)) ≡ true
  identifiers =
      let each = all-from_at (λ (m : Member). is_identifier (member_name m).name.0) (members (body x.1.tree)) (λ k m is.
      (both (is_identifier_part (member_name m).name) (has_argument_names m) (all_at is_member_named (members (body x.1.tree)) k m all_named is)).0) in
      let none = misses-none (λ (m : Member). is_identifier (member_name m).name.0) (members (body x.1.tree)) each in
      let le = member_names-weigh (misses is_identifier) files outcomes named n x at in
      all-by_misses is_identifier (member_names (schema_of files outcomes) n (declared files outcomes x)) (omega arith)

  inside_at : (k : ℕ) (m : Member) → slice_get (members (body x.1.tree)) k ≡ Some m → is_member_named m ≡ true → ((t : List ℕ) → total (λ a. is_that t (name_text a)) (rules.argument_names m) ≤ 1) → has_names_inside m ≡ true
  inside_at k (field f) is names once = refl
  inside_at k (constant c) is names once = refl
  inside_at k (enumerator e) is names once = refl
  inside_at k (nested d) is names once = refl
  inside_at k (method m) is names once =
      let apart = distinct-by_counts (map argument_text m.args) (λ t.
      let one = once t in
      let back = total-map (λ a. is_that t (name_text a)) (λ (a : Arg). a.name) m.args in
      let front = total-map (is_that t) argument_text m.args in
      omega arith) in
      let all : list_all is_identifier (map argument_text m.args) ≡ true = list_all-map is_identifier argument_text m.args ∙ (both (is_identifier_part m.name.name) (list_all (λ a. is_identifier (argument_text a)) m.args) names).1 in
      rw (apart, all) refl

  inside_hold : list_all has_names_inside (members (body x.1.tree)) ≡ true
  inside_hold = all-from_at has_names_inside (members (body x.1.tree)) (λ k m is.
      inside_at k m is (all_at is_member_named (members (body x.1.tree)) k m all_named is) (arguments-once files unbroken x.0 x.1 there k m is))

  pub member_names-hold : has_member_names (schema_of files outcomes) n (declared files outcomes x) ≡ true
  member_names-hold =
      let methods = kind_methods files outcomes x.1.file x.0 (backing_of x.1.tree) (body x.1.tree) inside_hold in
      let ascend = constants_ascend files outcomes x.1.file x.0 (members (body x.1.tree)) all_named in
      rw (distinct, identifiers, methods, ascend) refl

module _ (files : List Source) (outcomes : Outcomes) (named : are_named files ≡ true) (unbroken : breaches files ≡ []) where
  -- Rule 2 of a valid schema.
  pub members-hold : IsTrue (has_members (schema_of files outcomes))
  unfolding has_members
  members-hold = numbered-from_at (λ n d. has_member_names (schema_of files outcomes) n d) (schema_of files outcomes) (λ n d at.
      let x = schema-there files outcomes n d at in
      subst (λ (c : schema.Decl). has_member_names (schema_of files outcomes) n c ≡ true) x.2 (member_names-hold files outcomes named unbroken n x.0 x.1))
