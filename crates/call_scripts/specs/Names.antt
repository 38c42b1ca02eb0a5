-- Which method a text means, and which methods two schemas have under it (own). A text is in UTF-8.
use Rattle.std.specs.Prelude.{ℕ, List, Option, option_map}
use Rattle.std.specs.Prelude.{option_and_then}
use Rattle.std.specs.List.{position}
use Rattle.aidl_schema.specs.declared.schema.Decl.{Decl}
use Rattle.aidl_schema.specs.declared.schema.Method.{Method}
use Rattle.aidl_schema.specs.Find.{interface_named, methods_at}
use Rattle.aidl_schema.specs.Same.{same_text}
use Rattle.aidl_schema.specs.Names.{bytes_of}
pub use Rattle.wire_model.specs.Dots.{at_last_dot}

-- the position of the method of this name
abbrev pub position_named : List Method → List ℕ → Option ℕ
position_named ws name = position (λ w. same_text (bytes_of w.name) name) ws

-- of the methods of an interface
abbrev pub method_named : List Decl → ℕ → List ℕ → Option ℕ
method_named S i name = position_named (methods_at S i) name

-- the interface and the method of a call; SERVER's interface of that name, and its method of that name
pub record Named : Type 0 where
  pub interface : ℕ
  pub method : ℕ
  pub server : Option ℕ
  pub target : Option ℕ

-- SERVER's method, where it has the interface
abbrev pub target_named : List Decl → Option ℕ → List ℕ → Option ℕ
target_named B server name = option_and_then (λ j. method_named B j name) server

-- what the name of an interface and the name of a method mean to CLIENT's schema A and SERVER's B
abbrev pub named_by : List Decl → List Decl → List ℕ → List ℕ → Option Named
named_by A B before behind_it = option_and_then (λ i. option_map
    (λ m. record {
      interface = i;
      method = m;
      server = interface_named B before;
      target = target_named B (interface_named B before) behind_it;
    })
    (method_named A i behind_it)) (interface_named A before)

-- the canonical name of an interface, a dot and the name of a method
abbrev pub method_meant : List Decl → List Decl → List ℕ → Option Named
method_meant A B text = option_and_then (λ p. named_by A B p.0 p.1) (at_last_dot text)
