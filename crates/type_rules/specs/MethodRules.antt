-- The check rule on methods that are oneway: the places in a declaration that break it.
use Rattle.std.specs.Prelude.{Bool, false, ◌&&◌, ◌||◌, is_some}
use Rattle.std.specs.List.{list_any}
use Rattle.aidl_syntax.specs.Trees.{Method, Body}
use Rattle.aidl_syntax.specs.Trees.Body.{interface}
use Rattle.aidl_syntax.specs.Members.{body}
use Rattle.type_uses.specs.TypeUses.{TypeUse, of_method, name_place}
use Rattle.type_rules.specs.Filters.{Rule, broken_where}
use Rattle.type_rules.specs.TypeRules.{is_outward}

-- BadOneway

abbrev pub is_oneway_body : Body → Bool
is_oneway_body (interface oneway ms) = oneway
is_oneway_body _ = false

-- it returns a value, or has an `out` or `inout` argument
abbrev pub gives_back : Method → Bool
gives_back m = is_some m.returned || list_any (λ a. is_outward a.way) m.args

abbrev pub is_bad_oneway : Bool → TypeUse → Bool
is_bad_oneway oneway (of_method m t) = (oneway || m.oneway) && gives_back m
is_bad_oneway oneway _ = false

abbrev pub BadOneway : Rule
BadOneway entries e uses = broken_where (is_bad_oneway (is_oneway_body (body e.tree))) name_place uses
