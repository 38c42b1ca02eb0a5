-- The uses of types in a declaration of a dump, one by one.
use Rattle.std.proofs.Common.{◌≡◌, ℕ, Bool, true, false, cond, List, [], ◌∷◌, ◌++◌, map, Some, None, slice_get, zero, suc, refl, sym, ap, ◌∙◌}
use Rattle.std.specs.List.{list_all, filter, flat_map}
use Rattle.std.specs.Cmp.Lexicographic.{slice_cmp}
use Rattle.std.specs.List.Sorted.{IsStrictlySortedBy}
use Rattle.std.specs.Ordering.{nat_cmp}
use Rattle.std.proofs.lemmas.Bool.{and_parts}
use Rattle.aidl_syntax.specs.Trees as tree
use Rattle.aidl_syntax.specs.Trees.Members.{none}
use Rattle.aidl_syntax.specs.Members.{Member, listed, members}
use Rattle.aidl_syntax.specs.Members.Member.{field, constant, method, enumerator, nested}
use Rattle.aidl_syntax.specs.Sources.{Source}
use Rattle.declared_names.specs.Declarations.{declarations}
use Rattle.type_shapes.specs.Types.{shape_in}
use Rattle.type_uses.specs.TypeUses.{TypeUse, of_arg, of_member, of_members}
use Rattle.tree_schema.proofs.lemmas.walked.Placed.{Each}
use Rattle.aidl_schema.specs.declared.schema.Decl.{Decl}
use Rattle.aidl_schema.specs.declared.schema.Arg.{Arg}
use Rattle.aidl_schema.specs.declared.schema.Method.{Method}
use Rattle.aidl_schema.specs.declared.schema.Field.{Field}
use Rattle.aidl_schema.specs.declared.schema.Kind.{Kind}
use Rattle.aidl_schema.specs.declared.schema.Kind.TheVariants.{Interface, Parcelable, Union, Enum}
use Rattle.aidl_schema.specs.Containment.{fields_of}
use Rattle.aidl_schema.specs.Holds.{AllHold, AreApart, Holds}
use Rattle.aidl_schema.specs.Methods.{is_field_type, is_passed_type, is_result_type, has_method_types, has_way, is_in_way}
use Rattle.aidl_schema.specs.Names.{name_of, may_enclose, methods_of}
use Rattle.aidl_schema.specs.Valid as valid
use Rattle.aidl_schema.specs.Valid.{has_value}
use Rattle.dump_reading.specs.Bare.{bare_body, bare_field, bare_constant, bare_method, bare_arg}
use Rattle.dump_reading.specs.DumpTrees.{body_tree, constants_before, field_tree, constant_tree, method_tree, arg_tree, enumerator_tree}
use Rattle.dump_reading.proofs.spelled.Fits.{each_passes}
use Rattle.dump_reading.proofs.filed.Numbers.{walks}
use Rattle.dump_reading.proofs.named.Entries.{AreEntries}
use Rattle.dump_reading.proofs.named.Members.{bare_member, members_bare, members_written, Own}
use Rattle.dump_reading.proofs.settled.Members.{is_nested, each_join}
use Rattle.dump_reading.proofs.ruled.Uses.{IsFineUse, field_fine, constant_fine, argument_fine, method_fine}

-- Each of what is mapped, and of what is flat.

each_mapped : {X Y : Type 0} (R : Y → Type 0) (g : X → Y) (xs : List X) → ((k : ℕ) (x : X) → slice_get xs k ≡ Some x → R (g x)) → Each R (map g xs)
each_mapped R g [] h = tt
each_mapped R g (x ∷ xs) h = (h zero x refl, each_mapped R g xs (λ k y e. h (suc k) y e))

each_flat : {X Y : Type 0} (P : Y → Type 0) (g : X → List Y) (xs : List X) → Each (λ x. Each P (g x)) xs → Each P (flat_map g xs)
each_flat P g [] h = tt
each_flat P g (x ∷ xs) h = each_join P (g x) (flat_map g xs) h.0 (each_flat P g xs h.1)

each_back : (Q : Member → Type 0) (xs : List Member) → Each (λ n. (m : Member) → bare_member m ≡ n → Q m) xs → (ms : List Member) → map bare_member ms ≡ xs → Each Q ms
each_back Q xs h [] e = tt
each_back Q [] h (m ∷ ms) e = cc
each_back Q (x ∷ xs) h (m ∷ ms) e = let here : bare_member m ≡ x = cc in let rest : map bare_member ms ≡ xs = cc in (h.0 m here, each_back Q xs h.1 ms rest)

pub flat_each : {X Y : Type 0} (P : X → Type 0) (g : X → List Y) → ((x : X) → P x → g x ≡ []) → (xs : List X) → Each P xs → flat_map g xs ≡ []
flat_each P g h [] e = refl
flat_each P g h (x ∷ xs) e = ap (λ ys. ys ++ flat_map g xs) (h x e.0) ∙ flat_each P g h xs e.1

pub filter_each : {X : Type 0} (P : X → Type 0) (test : X → Bool) → ((x : X) → P x → test x ≡ false) → (xs : List X) → Each P xs → filter test xs ≡ []
filter_each P test h [] e = refl
filter_each P test h (x ∷ xs) e = ap (λ b. cond b (x ∷ filter test xs) (filter test xs)) (h x e.0) ∙ filter_each P test h xs e.1

module _ (S : List Decl) (H : AllHold S) (sorted : IsStrictlySortedBy (slice_cmp nat_cmp) (map name_of S)) (A : AreApart name_of S) (files : List Source) (are : AreEntries S files (walks S) (declarations files))
    (file scope : ℕ) (s : Source) (in_file : slice_get files file ≡ Some s) (fixed : Bool) where
  abbrev pub Fine : TypeUse → Type 0
  Fine u = IsFineUse (declarations files) fixed u

  -- the uses in a member
  abbrev AreFine : Member → Type 0
  AreFine m = Each Fine (of_member (shape_in files file scope) m)

  abbrev Written : Member → Type 0
  Written n = (m : Member) → bare_member m ≡ n → AreFine m

  args_fine : (args : List Arg) → list_all (λ a. is_passed_type S a.ty) args ≡ true → list_all (λ a. has_way S a) args ≡ true → (xs : List tree.Arg) → map bare_arg xs ≡ map (λ a. arg_tree S a) args
      → Each Fine (map (of_arg (shape_in files file scope)) xs)
  args_fine args h w [] e = tt
  args_fine [] h w (x ∷ xs) e = cc
  args_fine (a ∷ args) h w (x ∷ xs) e =
      let two = and_parts (is_passed_type S a.ty) (list_all (λ a. is_passed_type S a.ty) args) h in let ways = and_parts (has_way S a) (list_all (λ a. has_way S a) args) w in
      let here : bare_arg x ≡ arg_tree S a = cc in let rest : map bare_arg xs ≡ map (λ a. arg_tree S a) args = cc in
      (argument_fine S H sorted A files are file scope s in_file fixed a two.0 ways.0 x here, args_fine args two.1 ways.1 xs rest)

  fields_fine : (fs : List Field) → list_all (λ f. is_field_type S f) fs ≡ true → (fixed ≡ true → list_all (λ f. valid.has_fixed_size S f.ty) fs ≡ true) → Each Written (map (λ f. field (field_tree S f)) fs)
  fields_fine fs h fx = each_mapped Written (λ f. field (field_tree S f)) fs (λ k f at m e. by f (each_passes (λ f. is_field_type S f) fs h k f at) (λ on. each_passes (λ f. valid.has_fixed_size S f.ty) fs (fx on) k f at) m e) where
    by : (f : Field) → is_field_type S f ≡ true → (fixed ≡ true → valid.has_fixed_size S f.ty ≡ true) → (m : Member) → bare_member m ≡ field (field_tree S f) → AreFine m
    by f g q (field x) e = let here : bare_field x ≡ field_tree S f = cc in (field_fine S H sorted A files are file scope s in_file fixed f g q x here, tt)
    by f g q (constant x) e = cc
    by f g q (method x) e = cc
    by f g q (enumerator x) e = tt
    by f g q (nested x) e = tt

  methods_fine : (ms : List Method) → ((k : ℕ) (m : Method) → slice_get ms k ≡ Some m → (has_method_types S m ≡ true) × (list_all (λ a. has_way S a) m.args ≡ true) × (m.oneway ≡ true → (m.result ≡ None) × (list_all (λ a. is_in_way a.way) m.args ≡ true)))
      → Each Written (map (λ m. method (method_tree S m)) ms)
  methods_fine ms h = each_mapped Written (λ m. method (method_tree S m)) ms (λ k m at n e. by m (h k m at) n e) where
    by : (m : Method) → (has_method_types S m ≡ true) × (list_all (λ a. has_way S a) m.args ≡ true) × (m.oneway ≡ true → (m.result ≡ None) × (list_all (λ a. is_in_way a.way) m.args ≡ true))
        → (n : Member) → bare_member n ≡ method (method_tree S m) → AreFine n
    by m q (method x) e =
        let here : bare_method x ≡ method_tree S m = cc in
        let two = and_parts (is_result_type S m.result) (list_all (λ a. is_passed_type S a.ty) m.args) q.0 in
        (method_fine S H sorted A files are file scope s in_file fixed m two.0 q.2 x here, args_fine m.args two.1 q.1 x.args (ap (λ y. y.args) here))
    by m q (field x) e = cc
    by m q (constant x) e = cc
    by m q (enumerator x) e = tt
    by m q (nested x) e = tt

  constants_fine : (d : Decl) → list_all (λ c. has_value S c) d.constants ≡ true → Each Written (map (λ c. constant (constant_tree S c)) d.constants)
  constants_fine d h = each_mapped Written (λ c. constant (constant_tree S c)) d.constants (λ k c at m e. by c (each_passes (λ c. has_value S c) d.constants h k c at) m e) where
    by : (c : _) → has_value S c ≡ true → (m : Member) → bare_member m ≡ constant (constant_tree S c) → AreFine m
    by c g (constant x) e = let here : bare_constant x ≡ constant_tree S c = cc in (constant_fine S H sorted A files are file scope s in_file fixed c g x here, tt)
    by c g (field x) e = cc
    by c g (method x) e = cc
    by c g (enumerator x) e = tt
    by c g (nested x) e = tt

  nested_fine : (xs : List Member) → list_all is_nested xs ≡ true → Each Written xs
  nested_fine [] h = tt
  nested_fine (x ∷ xs) h = let two = and_parts (is_nested x) (list_all is_nested xs) h in (λ m e. by x two.0 m e, nested_fine xs two.1) where
    by : (n : Member) → is_nested n ≡ true → (m : Member) → bare_member m ≡ n → AreFine m
    by (nested y) h (field x) e = cc
    by (nested y) h (constant x) e = cc
    by (nested y) h (method x) e = cc
    by (nested y) h (enumerator x) e = tt
    by (nested y) h (nested x) e = tt
    by (field y) h m e = cc
    by (constant y) h m e = cc
    by (method y) h m e = cc
    by (enumerator y) h m e = cc

  own_fine : (n : ℕ) (d : Decl) → Holds S n d → (fixed ≡ true → list_all (λ f. valid.has_fixed_size S f.ty) (fields_of d.kind) ≡ true) → Each Written (Own S d.kind)
  own_fine n d v fx = by d.kind v.field_types fx (λ k m at. (each_passes (λ m. has_method_types S m) (methods_of d.kind) v.method_types k m at, v.ways k m at, v.oneway k m at)) where
    by : (k : Kind) → list_all (λ f. is_field_type S f) (fields_of k) ≡ true → (fixed ≡ true → list_all (λ f. valid.has_fixed_size S f.ty) (fields_of k) ≡ true)
        → ((i : ℕ) (m : Method) → slice_get (methods_of k) i ≡ Some m → (has_method_types S m ≡ true) × (list_all (λ a. has_way S a) m.args ≡ true) × (m.oneway ≡ true → (m.result ≡ None) × (list_all (λ a. is_in_way a.way) m.args ≡ true)))
        → Each Written (Own S k)
    by (Interface ms) h fx g = methods_fine ms g
    by (Parcelable fs) h fx g = fields_fine fs h fx
    by (Union fs) h fx g = fields_fine fs h fx
    by (Enum b es) h fx g = each_mapped Written (λ e. enumerator (enumerator_tree b e)) es (λ k x at m e. none_used x m e) where
      none_used : (x : _) (m : Member) → bare_member m ≡ enumerator (enumerator_tree b x) → AreFine m
      none_used x (enumerator y) e = tt
      none_used x (nested y) e = tt
      none_used x (field y) e = cc
      none_used x (constant y) e = cc
      none_used x (method y) e = cc

  -- all uses of a declaration
  pub uses_fine : (n : ℕ) (d : Decl) → Holds S n d → (fixed ≡ true → list_all (λ f. valid.has_fixed_size S f.ty) (fields_of d.kind) ≡ true) → (last : tree.Members) → (may_enclose d.kind ≡ false → (d.constants ≡ []) × (last ≡ none))
      → list_all is_nested (listed last) ≡ true → (t : tree.Body) → bare_body t ≡ body_tree S d.kind (constants_before S d last) → Each Fine (of_members (shape_in files file scope) (members t))
  uses_fine n d v fx last bare inner t e =
      let written = sym (members_bare t) ∙ ap members e ∙ members_written S d d.kind last bare in
      each_flat Fine (of_member (shape_in files file scope)) (members t) (each_back AreFine _
      (each_join Written (Own S d.kind) _ (own_fine n d v fx) (each_join Written (map (λ c. constant (constant_tree S c)) d.constants) (listed last) (constants_fine d v.values) (nested_fine (listed last) inner)))
      (members t) written)
