-- A view is what a value is seen as: `law_seen_as`.
use Rattle.std.proofs.Common.{◌≡◌, Bool, true, false, List, [], ◌∷◌, Option, Some, None, option_map, slice_get, refl, subst}
use Rattle.aidl_schema.specs.declared.schema.AidlType.{AidlType}
use Rattle.aidl_schema.specs.declared.schema.Arg.{Arg}
use Rattle.aidl_schema.specs.declared.schema.Decl.{Decl}
use Rattle.aidl_schema.specs.declared.schema.Field.{Field}
use Rattle.aidl_schema.specs.Same.{same_text}
use Rattle.aidl_schema.specs.Types.{form_of, elem}
use Rattle.aidl_values.specs.Data.{Data, null, truth, number, text, seq, rec, alt, Items, none, item}
use Rattle.aidl_values.specs.Sound.{initial_in}
use Rattle.wire_model.specs.Calls.{is_out}
use Rattle.wire_model.specs.Outcome.{view_argument, view_arguments, view_result, view_values}
use Rattle.wire_model.specs.SeenAs.{ArgumentSeenAs, ArgumentsSeenAs, EachFieldHas, EachSeenAs, FieldSeenAs, OutsSeenAs, ResultSeenAs, SeenAs}
use Rattle.wire_model.specs.Spell.{parcelable_fields, union_fields}
use Rattle.wire_model.specs.View.{◌>>=◌, agree, each_field, field_named, item_first, or_initial, view_items, view_named, view_of, when}

-- what is there when agreed, of the one type
when_is : (b : Bool) (o : Option Data) (w : Data) → when b o ≡ Some w → o ≡ Some w
when_is true o w e = e
when_is false o w e = cc

one_is : (v w : Data) → ◌≡◌ {A = Option Data} (Some v) (Some w) → w ≡ v
one_is v w e = cc

-- what a mapped value is made of
mapped : {X Y : Type 0} (f : X → Y) (o : Option X) (w : Y) → option_map f o ≡ Some w → (x : X) × (o ≡ Some x) × (w ≡ f x)
mapped f None w e = cc
mapped f (Some x) w e = (x, refl, cc)

-- an item and those after it
parts : (o : Option Data) (os : Option Items) (ws : Items) → item_first o os ≡ Some ws → (x : Data) × (xs : Items) × (o ≡ Some x) × (os ≡ Some xs) × (ws ≡ item x xs)
parts None os ws e = cc
parts (Some x) None ws e = cc
parts (Some x) (Some xs) ws e = (x, xs, refl, refl, cc)

none_is : (ws : Items) → ◌≡◌ {A = Option Items} (Some none) (Some ws) → ws ≡ none
none_is ws e = cc

-- each field has what a step finds of it
fields_have : (F : Field → Option Data) (P : Field → Data → Type 0) → ((g : Field) (x : Data) → F g ≡ Some x → P g x) → (gs : List Field) (ws : Items) → each_field F gs ≡ Some ws → EachFieldHas P gs ws
fields_have F P each [] none e = tt
fields_have F P each [] (item w ws) e = absurd cc
fields_have F P each (g ∷ gs) none e =
    let p = parts (F g) (each_field F gs) none e in
    let wrong : none ≡ item p.0 p.1 = p.4 in absurd cc
fields_have F P each (g ∷ gs) (item w ws) e =
    let p = parts (F g) (each_field F gs) (item w ws) e in
    let first : p.0 ≡ w = let all : item w ws ≡ item p.0 p.1 = p.4 in cc in
    let others : p.1 ≡ ws = let all : item w ws ≡ item p.0 p.1 = p.4 in cc in
    (each g w (subst (λ x. F g ≡ Some x) first p.2), fields_have F P each gs ws (subst (λ xs. each_field F gs ≡ Some xs) others p.3))

-- of the first of two
first_is : {X : Type 0} (o : Option X) (F : X → Option Data) (w : Data) → (o >>= F) ≡ Some w → (x : X) × (o ≡ Some x) × (F x ≡ Some w)
first_is None F w e = cc
first_is (Some x) F w e = (x, refl, e)

module _ (A B : List Decl) where
  mutual
    pub seen_as : (t u : AidlType) (v w : Data) → view_of A t B u v ≡ Some w → SeenAs A t B u v w
    seen_as t u null w e = one_is null w (when_is (agree A t B u) (Some null) w e)
    seen_as t u (truth b) w e = one_is (truth b) w (when_is (agree A t B u) (Some (truth b)) w e)
    seen_as t u (number n) w e = one_is (number n) w (when_is (agree A t B u) (Some (number n)) w e)
    seen_as t u (text x) w e = one_is (text x) w (when_is (agree A t B u) (Some (text x)) w e)
    seen_as t u (seq vs) w e =
        let m = mapped seq (view_items A (elem A t) B (elem B u) vs) w (when_is (agree A t B u) (option_map seq (view_items A (elem A t) B (elem B u) vs)) w e) in
        (m.0, m.2, each_seen_as (elem A t) (elem B u) vs m.0 m.1)
    seen_as t u (rec vs) w e =
        let fs = parcelable_fields (form_of A t.base) in
        let gs = parcelable_fields (form_of B u.base) in
        let F : Field → Option Data = λ g. or_initial (view_named A fs B g vs) (initial_in B g) in
        let m = mapped rec (each_field F gs) w (when_is (agree A t B u) (option_map rec (each_field F gs)) w e) in
        (m.0, m.2, fields_have F (λ g x. FieldSeenAs A fs B g vs x) (λ g x h. field_seen_as fs g vs x h) gs m.0 m.1)
    seen_as t u (alt k v) w e =
        let gs = union_fields (form_of B u.base) in
        let F : Field → Option Data = λ f. (field_named 0 f.name.0 gs >>= (λ q. option_map (alt q.0) (view_of A f.ty B q.1.ty v))) in
        let tag = first_is (slice_get (union_fields (form_of A t.base)) k) F w (when_is (agree A t B u) (slice_get (union_fields (form_of A t.base)) k >>= F) w e) in
        let f = tag.0 in
        let place = first_is (field_named 0 f.name.0 gs) (λ q. option_map (alt q.0) (view_of A f.ty B q.1.ty v)) w tag.2 in
        let p = place.0 in
        let m = mapped (alt p.0) (view_of A f.ty B p.1.ty v) w place.2 in
        (f, tag.1, p.0, p.1, place.1, m.0, m.2, seen_as f.ty p.1.ty v m.0 m.1)

    each_seen_as : (t u : AidlType) (vs ws : Items) → view_items A t B u vs ≡ Some ws → EachSeenAs A t B u vs ws
    each_seen_as t u none ws e = none_is ws e
    each_seen_as t u (item v vs) ws e =
        let p = parts (view_of A t B u v) (view_items A t B u vs) ws e in
        (p.0, p.1, p.4, seen_as t u v p.0 p.2, each_seen_as t u vs p.1 p.3)

    field_seen_as : (fs : List Field) (g : Field) (vs : Items) (x : Data) → or_initial (view_named A fs B g vs) (initial_in B g) ≡ Some x → FieldSeenAs A fs B g vs x
    field_seen_as fs g none x e = one_is (initial_in B g) x e
    field_seen_as [] g (item v vs) x e = one_is (initial_in B g) x e
    field_seen_as (f ∷ fs) g (item v vs) x e = by_name (same_text f.name.0 g.name.0) refl (λ h. seen_as f.ty g.ty v x h) (λ h. field_seen_as fs g vs x h)
      where
        by_name : (b : Bool) → same_text f.name.0 g.name.0 ≡ b → (view_of A f.ty B g.ty v ≡ Some x → SeenAs A f.ty B g.ty v x)
            → (or_initial (view_named A fs B g vs) (initial_in B g) ≡ Some x → FieldSeenAs A fs B g vs x) → FieldSeenAs A (f ∷ fs) B g (item v vs) x
        by_name true is first later = let h = rw is at e in rw is (first h)
        by_name false is first later = let h = rw is at e in rw is (later h)

  argument_seen_as : (a b : Arg) (v w : Data) → view_argument A a B b v ≡ Some w → ArgumentSeenAs A a B b v w
  argument_seen_as a b v w e = by_way (is_out a.way) refl
    where
      by_way : (out : Bool) → is_out a.way ≡ out → ArgumentSeenAs A a B b v w
      by_way true is = let h = rw is at e in rw is (one_is _ w h)
      by_way false is = let h = rw is at e in rw is (seen_as a.ty b.ty v w h)

  pub arguments_seen_as : (xs ys : List Arg) (vs ws : Items) → view_arguments A xs B ys vs ≡ Some ws → ArgumentsSeenAs A xs B ys vs ws
  arguments_seen_as [] ys vs ws e = none_is ws e
  arguments_seen_as (a ∷ xs) [] vs ws e = none_is ws e
  arguments_seen_as (a ∷ xs) (b ∷ ys) none ws e = none_is ws e
  arguments_seen_as (a ∷ xs) (b ∷ ys) (item v vs) ws e =
      let p = parts (view_argument A a B b v) (view_arguments A xs B ys vs) ws e in
      (p.0, p.1, p.4, argument_seen_as a b v p.0 p.2, arguments_seen_as xs ys vs p.1 p.3)

  pub outs_seen_as : (ts us : List AidlType) (vs ws : Items) → view_values A ts B us vs ≡ Some ws → OutsSeenAs A ts B us vs ws
  outs_seen_as [] us vs ws e = none_is ws e
  outs_seen_as (t ∷ ts) [] vs ws e = none_is ws e
  outs_seen_as (t ∷ ts) (u ∷ us) none ws e = none_is ws e
  outs_seen_as (t ∷ ts) (u ∷ us) (item v vs) ws e =
      let p = parts (view_of A t B u v) (view_values A ts B us vs) ws e in
      (p.0, p.1, p.4, seen_as t u v p.0 p.2, outs_seen_as ts us vs p.1 p.3)

  pub result_seen_as : (t u : Option AidlType) (v r : Option Data) → view_result A t B u v ≡ Some r → ResultSeenAs A t B u v r
  result_seen_as None u v r e = cc
  result_seen_as (Some t) None v r e = cc
  result_seen_as (Some t) (Some u) None r e = cc
  result_seen_as (Some t) (Some u) (Some v) r e =
      let m = mapped (λ w. let x : Option Data = Some w in x) (view_of A t B u v) r e in
      (m.0, m.2, seen_as t u v m.0 m.1)
