-- What a valid schema gives of its declarations, rule by rule.
use Rattle.std.proofs.Common.{◌≡◌, ℕ, ◌≤◌, Bool, true, false, not, ◌&&◌, ◌||◌, List, [], ◌++◌, map, length, Option, Some, None, slice_get, nat_le, nat_eq, nat_cmp, refl, zero-add, arith, length-append}
use Rattle.std.specs.Prelude.{is_none}
use Rattle.std.specs.Cmp.Lexicographic.{slice_cmp}
use Rattle.std.specs.List.{list_all, enumerate_from}
use Rattle.std.specs.List.Sorted.{IsStrictlySortedBy}
use Rattle.std.proofs.lemmas.Bool.Decides.{nat_tests}
use Rattle.std.proofs.lemmas.List.{length-map}
use Rattle.aidl_base.specs.Identifiers.{is_identifier}
use Rattle.aidl_schema.specs.declared.schema.Decl.{Decl}
use Rattle.aidl_schema.specs.Containment.{fields_of, holds_itself}
use Rattle.aidl_schema.specs.Holds.{AreApart, OfEach, Holds, AllHold}
use Rattle.aidl_schema.specs.Methods.{has_types, has_decl_types, has_method_types, is_field_type, has_methods, has_decl_methods, has_way, is_oneway_well, is_in_way, last_id}
use Rattle.aidl_schema.specs.Names.{has_names, is_name, is_outer, name_of, has_members, has_member_names, member_names, are_names, are_distinct, are_ascending, are_identifiers, argument_names, methods_of, enumerators_of, field_names, method_names, enumerator_names, constant_names, last_part, nested_in}
use Rattle.aidl_schema.specs.Same.{same_text}
use Rattle.aidl_schema.specs.Sizes.{default_depth, default_nodes}
use Rattle.aidl_schema.specs.Valid.{IsValid, one_of, has_constants, has_value, has_initializers, has_decl_initializers, has_initializer_of, is_union_whole, has_enums, is_enum, has_no_constant, is_enum_whole, has_bounds, may_be_fixed, is_bounded, is_within_limits, has_few}
use Rattle.aidl_base.proofs.lemmas.Tests.{both, flipped, all_at, all_numbered}
use Rattle.aidl_schema.proofs.lemmas.Apart.{apart, distinct_parts, all_parts, sorted, ascending_distinct}
use Rattle.aidl_schema.proofs.lemmas.Sames.{same_text_refl, eq_refl}

-- the empty tree is valid
pub valid_empty : (S : List Decl) → S ≡ [] → IsValid S
unfolding has_names has_members has_types has_methods has_constants has_initializers has_enums has_bounds is_within_limits
valid_empty S e = rw e (record {
  names = refl;
  members = refl;
  types = refl;
  methods = refl;
  constants = refl;
  initializers = refl;
  enums = refl;
  bounds = refl;
  limits = refl;
})

none_is : {X : Type 0} (o : Option X) → is_none o ≡ true → o ≡ None
none_is None e = refl
none_is (Some x) e = cc

or_so : (a b : Bool) → (not a || b) ≡ true → a ≡ true → b ≡ true
or_so true b h e = h
or_so false b h e = cc

at_most : (m n : ℕ) → nat_le m n ≡ true → m ≤ n
at_most m n h = grind (arith, nat_tests)

numbered : (test : ℕ → Decl → Bool) (S : List Decl) (n : ℕ) (d : Decl) → list_all (λ x. test x.0 x.1) (enumerate_from 0 S) ≡ true → slice_get S n ≡ Some d → test n d ≡ true
numbered test S n d all at = let h = all_numbered test 0 S n d all at in rw (zero-add n) at h

counted : {X : Type 0} (name : X → List ℕ) (xs : List X) → length (map name xs) ≤ 4096 → length xs ≤ 4096
counted name xs h = let same = length-map xs name in omega (arith, h, same)

module _ (S : List Decl) (valid : IsValid S) (n : ℕ) (d : Decl) (at : slice_get S n ≡ Some d) where
  name_holds : (is_name d.name.0 ≡ true) × (is_outer S d.outer d.name.0 ≡ true)
  unfolding has_names
  name_holds =
      let two = both (are_ascending (map name_of S)) (list_all (λ e. is_name e.name.0 && is_outer S e.outer e.name.0) S) valid.names in
      both _ _ (all_at (λ e. is_name e.name.0 && is_outer S e.outer e.name.0) S n d two.1 at)

  members_hold : (are_names (member_names S n d) ≡ true) × (list_all (λ m. are_names (argument_names m)) (methods_of d.kind) ≡ true) × (are_ascending (constant_names d) ≡ true)
  unfolding has_members
  members_hold =
      let one = both _ _ (numbered (λ k e. has_member_names S k e) S n d valid.members at) in
      let two = both _ _ one.1 in
      (one.0, two.0, two.1)

  -- the names of members, kind by kind
  parts_hold : (test : List (List ℕ) → Type 0) → ((xs ys : List (List ℕ)) → test (xs ++ ys) → test xs × test ys) → test (member_names S n d)
      → test (field_names d.kind) × test (method_names d.kind) × test (enumerator_names d.kind) × test (constant_names d)
  parts_hold test split h =
      let nested = map (λ e. last_part e.name.0) (nested_in S n) in
      let one = split (field_names d.kind) (method_names d.kind ++ (enumerator_names d.kind ++ (constant_names d ++ nested))) h in
      let two = split (method_names d.kind) (enumerator_names d.kind ++ (constant_names d ++ nested)) one.1 in
      let three = split (enumerator_names d.kind) (constant_names d ++ nested) two.1 in
      (one.0, two.0, three.0, (split (constant_names d) nested three.1).0)

  types_hold : (list_all (λ f. is_field_type S f) (fields_of d.kind) ≡ true) × (list_all (λ m. has_method_types S m) (methods_of d.kind) ≡ true)
  unfolding has_types
  types_hold = both _ _ (all_at (λ e. has_decl_types S e) S n d valid.types at)

  methods_hold : (list_all (λ m. list_all (λ a. has_way S a) m.args && (is_oneway_well m && nat_le m.id last_id)) (methods_of d.kind) ≡ true) × (are_distinct nat_eq (map (λ m. m.id) (methods_of d.kind)) ≡ true)
  unfolding has_methods
  methods_hold = both _ _ (all_at (λ e. has_decl_methods S e) S n d valid.methods at)

  method_holds : OfEach (methods_of d.kind) (λ m. (list_all (λ a. has_way S a) m.args ≡ true) × (is_oneway_well m ≡ true) × (nat_le m.id last_id ≡ true))
  method_holds k m is =
      let one = both _ _ (all_at (λ m. list_all (λ a. has_way S a) m.args && (is_oneway_well m && nat_le m.id last_id)) (methods_of d.kind) k m methods_hold.0 is) in
      let two = both _ _ one.1 in
      (one.0, two.0, two.1)

  oneway_holds : OfEach (methods_of d.kind) (λ m. m.oneway ≡ true → (m.result ≡ None) × (list_all (λ a. is_in_way a.way) m.args ≡ true))
  oneway_holds k m is h =
      let two = both _ _ (or_so m.oneway (is_none m.result && list_all (λ a. is_in_way a.way) m.args) (method_holds k m is).1 h) in
      (none_is m.result two.0, two.1)

  constants_hold : list_all (λ c. has_value S c) d.constants ≡ true
  unfolding has_constants
  constants_hold = all_at (λ e. list_all (λ c. has_value S c) e.constants) S n d valid.constants at

  initializers_hold : (list_all (λ f. has_initializer_of S f.ty f.initial) (fields_of d.kind) ≡ true) × (is_union_whole d.kind ≡ true)
  unfolding has_initializers
  initializers_hold = both _ _ (all_at (λ e. has_decl_initializers S e) S n d valid.initializers at)

  enum_holds : is_enum_whole d.kind ≡ true
  unfolding has_enums
  enum_holds = (both _ _ (all_at (λ e. is_enum_whole e.kind && (not (is_enum e.kind) || has_no_constant e.constants)) S n d valid.enums at)).0

  bounds_hold : (may_be_fixed S d ≡ true) × (holds_itself S n ≡ false) × (nat_le (default_depth S (one_of n)) 32 ≡ true) × (nat_le (default_nodes S (one_of n)) 512 ≡ true)
  unfolding has_bounds
  bounds_hold =
      let one = both _ _ (numbered (λ k e. may_be_fixed S e && is_bounded S k) S n d valid.bounds at) in
      let two = both _ _ one.1 in
      let three = both _ _ two.1 in
      (one.0, flipped _ two.0, three.0, three.1)

  limits_hold : (nat_le (length (member_names S n d)) 4096 ≡ true) × (list_all (λ m. nat_le (length m.args) 255) (methods_of d.kind) ≡ true)
  unfolding is_within_limits
  limits_hold = both _ _ (numbered (λ k e. has_few S k e) S n d (both _ _ valid.limits).1 at)

  counts_hold : (length (fields_of d.kind) ≤ 4096) × (length (methods_of d.kind) ≤ 4096) × (length (enumerators_of d.kind) ≤ 4096) × (length d.constants ≤ 4096)
  counts_hold =
      let few = at_most (length (member_names S n d)) 4096 limits_hold.0 in
      let parts = parts_hold (λ xs. length xs ≤ 4096) (λ xs ys h. let sum = length-append xs ys in (omega (arith, h, sum), omega (arith, h, sum))) few in
      (counted (λ f. f.name.0) (fields_of d.kind) parts.0, counted (λ m. m.name.0) (methods_of d.kind) parts.1, counted (λ e. e.name.0) (enumerators_of d.kind) parts.2, counted (λ c. c.name.0) d.constants parts.3)

  pub holds : Holds S n d
  holds =
      let identifiers = parts_hold (λ xs. are_identifiers xs ≡ true) (λ xs ys h. all_parts is_identifier xs ys h) (both _ _ members_hold.0).1 in
      let distinct = parts_hold (λ xs. are_distinct same_text xs ≡ true) (λ xs ys h. distinct_parts same_text xs ys h) (both _ _ members_hold.0).0 in
      record {
        name = name_holds.0;
        outer = name_holds.1;
        field_identifiers = identifiers.0;
        method_identifiers = identifiers.1;
        enumerator_identifiers = identifiers.2;
        constant_identifiers = identifiers.3;
        fields = apart same_text (λ f. f.name.0) same_text_refl (fields_of d.kind) distinct.0;
        methods = apart same_text (λ m. m.name.0) same_text_refl (methods_of d.kind) distinct.1;
        enumerators = apart same_text (λ e. e.name.0) same_text_refl (enumerators_of d.kind) distinct.2;
        constants = apart same_text (λ c. c.name.0) same_text_refl d.constants distinct.3;
        sorted = members_hold.2;
        argument_identifiers = λ k m is. (both _ _ (all_at (λ w. are_names (argument_names w)) (methods_of d.kind) k m members_hold.1 is)).1;
        arguments = λ k m is. apart same_text (λ a. a.name.0) same_text_refl m.args (both _ _ (all_at (λ w. are_names (argument_names w)) (methods_of d.kind) k m members_hold.1 is)).0;
        field_types = types_hold.0;
        method_types = types_hold.1;
        ids = apart nat_eq (λ m. m.id) eq_refl (methods_of d.kind) methods_hold.1;
        small_ids = λ k m is. at_most m.id last_id (method_holds k m is).2;
        ways = λ k m is. (method_holds k m is).0;
        oneway = oneway_holds;
        values = constants_hold;
        initializers = initializers_hold.0;
        union = initializers_hold.1;
        enum = enum_holds;
        fixed = bounds_hold.0;
        grounded = bounds_hold.1;
        depth = at_most (default_depth S (one_of n)) 32 bounds_hold.2;
        nodes = at_most (default_nodes S (one_of n)) 512 bounds_hold.3;
        few_fields = counts_hold.0;
        few_methods = counts_hold.1;
        few_enumerators = counts_hold.2;
        few_constants = counts_hold.3;
        few_arguments = λ k m is. at_most (length m.args) 255 (all_at (λ w. nat_le (length w.args) 255) (methods_of d.kind) k m limits_hold.1 is);
      }

pub all_hold : (S : List Decl) → IsValid S → AllHold S
all_hold S valid n d at = holds S valid n d at

module _ (S : List Decl) (valid : IsValid S) where
  pub names_ascend : IsStrictlySortedBy (slice_cmp nat_cmp) (map name_of S)
  unfolding has_names
  names_ascend = sorted (map name_of S) (both _ _ valid.names).0

  pub decls_apart : AreApart name_of S
  unfolding has_names
  decls_apart = apart same_text name_of same_text_refl S (ascending_distinct (map name_of S) (both _ _ valid.names).0)

  pub few_decls : length S ≤ 16384
  unfolding is_within_limits
  few_decls = at_most (length S) 16384 (both (nat_le (length S) 16384) _ valid.limits).0
