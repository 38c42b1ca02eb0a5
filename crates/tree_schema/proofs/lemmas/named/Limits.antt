-- Rule 9 of a valid schema: a tree that passes no limit gives a schema within its limits.
use Rattle.std.proofs.Common.{IsTrue, ◌≡◌, ◌≤◌, ◌+◌, ℕ, Bool, true, false, if◌then◌else◌, nat_lt, nat_le, List, [], ◌∷◌, map, length, Some, None, slice_get, refl, subst, arith}
use Rattle.std.specs.List.{list_any, list_all}
use Rattle.std.proofs.lemmas.Bool.Decides.{nat_tests}
use Rattle.std.proofs.lemmas.List.{length-map}
use Rattle.aidl_base.specs.declared.limit.LimitName.TheVariants as limit
use Rattle.aidl_base.proofs.lemmas.Tests.{neither}
use Rattle.aidl_schema.specs.declared.schema.Decl as schema
use Rattle.aidl_schema.specs.Names.{member_names, methods_of}
use Rattle.aidl_schema.specs.Valid.{is_within_limits, has_few}
use Rattle.aidl_syntax.specs.Trees.{Body}
use Rattle.aidl_syntax.specs.Trees.Body.{parcelable, union, enum, interface}
use Rattle.aidl_syntax.specs.Members.{Member, members, listed, body}
use Rattle.aidl_syntax.specs.Members.Member.{field, constant, method, enumerator, nested}
use Rattle.declared_names.specs.Declarations.{Entry, declarations}
use Rattle.aidl_names.specs.Limits.{passed, has_many_members, has_long_method, is_long_method}
use Rattle.aidl_syntax.specs.Sources.{Source}
use Rattle.const_values.specs.declared.wanted.Wanted.{Wanted}
use Rattle.type_shapes.specs.Backing.{backing_of}
use Rattle.tree_schema.specs.Numbers.{Numbered, sorted}
use Rattle.tree_schema.specs.Parts.{methods_in, arg_in}
use Rattle.tree_schema.specs.SchemaOf.{schema_of, declared, kind_of}
use Rattle.tree_schema.specs.Values.{Outcomes}
use Rattle.tree_schema.proofs.lemmas.walked.Totals.{total-length, total-enumerate}
use Rattle.tree_schema.proofs.walked.Outers.{are_named}
use Rattle.tree_schema.proofs.lemmas.named.Numbers.{sorted-total, sorted-there}
use Rattle.tree_schema.proofs.lemmas.named.Schema.{schema-there}
use Rattle.tree_schema.proofs.named.MemberWeights.{member_names-weigh}
use Rattle.tree_schema.proofs.lemmas.named.Members.{numbered-from_at}
use Rattle.tree_schema.proofs.lemmas.walked.Lists.{none-at}

-- no limit is passed: each of the three isn't
none_passed : (entries : List Entry) → passed entries ≡ None → (nat_lt 16384 (length entries) ≡ false) × (list_any has_many_members entries ≡ false) × (list_any has_long_method entries ≡ false)
none_passed entries e = by (nat_lt 16384 (length entries)) (list_any has_many_members entries) (list_any has_long_method entries) e where
  by : (a b c : Bool) → (if a then Some limit.Declarations else (if b then Some limit.Members else (if c then Some limit.Arguments else None))) ≡ None → (a ≡ false) × (b ≡ false) × (c ≡ false)
  by true b c h = cc
  by false true c h = cc
  by false false true h = cc
  by false false false h = (refl, refl, refl)

methods_short : (files : List Source) (file scope : ℕ) (oneway : Bool) (before : ℕ) (ms : List Member) → list_any is_long_method ms ≡ false
    → list_all (λ m. nat_le (length m.args) 255) (methods_in files file scope oneway before ms) ≡ true
methods_short files file scope oneway before [] h = refl
methods_short files file scope oneway before (field f ∷ ms) h = methods_short files file scope oneway before ms h
methods_short files file scope oneway before (constant c ∷ ms) h = methods_short files file scope oneway before ms h
methods_short files file scope oneway before (enumerator e ∷ ms) h = methods_short files file scope oneway before ms h
methods_short files file scope oneway before (nested d ∷ ms) h = methods_short files file scope oneway before ms h
methods_short files file scope oneway before (method m ∷ ms) h =
    let two = neither (nat_lt 255 (length m.args)) (list_any is_long_method ms) h in
    let first = two.0 in
    let same = length-map m.args (arg_in files file scope) in
    let few : nat_le (length (map (arg_in files file scope) m.args)) 255 ≡ true = grind (arith, nat_tests) in
    rw (few, methods_short files file scope oneway (before + 1) ms two.1) refl

kind_short : (files : List Source) (outcomes : Outcomes) (file number : ℕ) (backed : Wanted) (b : Body) → list_any is_long_method (members b) ≡ false
    → list_all (λ m. nat_le (length m.args) 255) (methods_of (kind_of files outcomes file number backed b)) ≡ true
kind_short files outcomes file number backed (parcelable ms) h = refl
kind_short files outcomes file number backed (union ms) h = refl
kind_short files outcomes file number backed (enum es) h = refl
kind_short files outcomes file number backed (interface oneway ms) h = methods_short files file number oneway 0 (listed ms) h

module _ (files : List Source) (outcomes : Outcomes) (named : are_named files ≡ true) (within : passed (declarations files) ≡ None) where
  few_at : (n : ℕ) (x : Numbered) → slice_get (sorted (declarations files)) n ≡ Some x → has_few (schema_of files outcomes) n (declared files outcomes x) ≡ true
  few_at n x at =
      let there = sorted-there (declarations files) n x at in
      let limits = none_passed (declarations files) within in
      let few = none-at has_many_members (declarations files) x.0 x.1 limits.1 there in
      let short = none-at has_long_method (declarations files) x.0 x.1 limits.2 there in
      let le = member_names-weigh (λ t. 1) files outcomes named n x at in
      let in_schema = total-length (member_names (schema_of files outcomes) n (declared files outcomes x)) in
      let in_tree = total-length (members (body x.1.tree)) in
      let count : nat_le (length (member_names (schema_of files outcomes) n (declared files outcomes x))) 4096 ≡ true = grind (arith, nat_tests) in
      let methods = kind_short files outcomes x.1.file x.0 (backing_of x.1.tree) (body x.1.tree) short in
      rw (count, methods) refl

  number_holds : nat_le (length (schema_of files outcomes)) 16384 ≡ true
  number_holds =
      let limits = none_passed (declarations files) within in
      let few = limits.0 in
      let same = length-map (sorted (declarations files)) (declared files outcomes) in
      let le = sorted-total (λ x. 1) (declarations files) in
      let one = total-length (sorted (declarations files)) in
      let two = total-enumerate (λ (e : Entry). 1) 0 (declarations files) in
      let three = total-length (declarations files) in
      let at_most : length (schema_of files outcomes) ≤ length (declarations files) = omega arith in
      grind (arith, nat_tests)

  -- Rule 9 of a valid schema.
  pub limits-hold : IsTrue (is_within_limits (schema_of files outcomes))
  unfolding is_within_limits
  limits-hold =
      let each = numbered-from_at (λ n d. has_few (schema_of files outcomes) n d) (schema_of files outcomes) (λ n d at.
      let x = schema-there files outcomes n d at in
      subst (λ (c : schema.Decl). has_few (schema_of files outcomes) n c ≡ true) x.2 (few_at n x.0 x.1)) in
      rw (number_holds, each) refl
