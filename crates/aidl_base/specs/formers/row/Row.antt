-- How a `Row` holds its items, so that a type may hold a row of itself: the items are those of its list, in order.
use mathlib.Core.Path.{◌≡◌, refl, sym}
use mathlib.Core.List.{List, []}
use mathlib.Core.Former.{Former, this, list, via, children}
use base.Stored.{code_map}
use denote.RattleType.{RattleType}
use denote.HoleLaws.{Alike}
use denote.HolePlaces.{Recodes, struct_places, laid}
use denote.Hole.Carrier.{listed, list-listed}
use denote.Hole.Fix.{over}
use denote.Param.Weighed.{Weighed, w_list}
use denote.Model.Placed.{view_places}
use Rattle.std.specs.formers.vec.Vec as vec
use Rattle.std.specs.declared.alloc.Global.{Global}
use Rattle.std.specs.contracts.alloc.Global as heap
use Rattle.std.specs.contracts.impls.GlobalAllocator.TheImpl.{ghosts}
use Rattle.aidl_base.specs.declared.row.Row.TheInside.{Inside}
use Rattle.aidl_base.specs.declared.row.Row.TheView.{view, invariant}
use Rattle.aidl_base.specs.contracts.row.Row as contract_of
use Rattle.aidl_base.specs.contracts.row.Row.TheInside as inside_of

-- what contracts see: a list of what is held
abbrev pub the_former : Former {0} → Former {0}
the_former held = list held

abbrev pub the_weighed : {held : Former {0}} → Weighed held → Weighed (the_former held)
the_weighed weighed = w_list weighed

-- a row may hold nothing
pub the_empty : List ⊥
the_empty = []

abbrev pub the_items : (X : Type 0) → List X → List X
the_items X row = row

pub the_items_listed : (X : Type 0) (row : List X) → listed _ (children (the_former this) X row) ≡ the_items X row
the_items_listed X row = list-listed X row

-- what the struct holds: a vector of what is held
abbrev fields : Former {0}
fields = via (vec.the_former this Global) Inside (λ X row. row.items) (λ X vector. record { items = vector })
    (λ X row. refl) (λ X vector. refl)

module _ (R S : RattleType) (h : R.Denot → S.Denot) where
  -- at two types of items that are laid out alike, rows are laid out alike
  pub the_places : Alike R S h
      → Alike (contract_of.the_row R) (contract_of.the_row S) ((the_former this).map R.Denot S.Denot h)
  the_places alike = view_places fields (list this) view (λ X Y k u. refl) (λ X u. refl) R.Denot S.Denot h
      (contract_of.the_row R).coded (contract_of.the_row S).coded
      (invariant R.Denot) (invariant S.Denot) (λ u p q. refl) (λ u p q. refl) (λ u e. tt) (λ u e. tt)
      (over (inside_of.the_row R)) (over (inside_of.the_row S))
      (struct_places (inside_of.the_type R) (inside_of.the_type S) (vec.mapped h, tt) _ (λ d. refl) refl
      (laid _ _ _ (vec.the_places heap.the_row ghosts R S h alike), tt))

  -- and are stored alike in ghost data
  pub the_codes_placed : Recodes R S h
      → Recodes (contract_of.the_row R) (contract_of.the_row S) ((the_former this).map R.Denot S.Denot h)
  the_codes_placed recodes row = sym (code_map R.coded.code S.coded.code h (λ x. sym (recodes x)) row)
