use Rattle.std.proofs.Common.{List, map, ap, ◌∙◌}
use Rattle.aidl_syntax.specs.declared.tree.ParsedFile.{ParsedFile}
use Rattle.declared_names.specs.Called.{called_at, seen_table}
use Rattle.declared_names.specs.Declarations.{declarations}
use Rattle.aidl_syntax.specs.Sources.{source_of}
use Rattle.declared_names.proofs.lemmas.Named.{has_table, has_none}
use Rattle.aidl_names.proofs.names.Names.member.Goals as goal

pub returns-in-Some : goal.returns-in-Some
returns-in-Some c =
    c.called.ensures
    ∙ has_table seen_table c.deref.result.now (declarations (map source_of c.self.inside.resolver.0)) c.args.number c.args.name.now (ap (map seen_table) c.deref.ensures.value ∙ c.self.invariant.called)
    c.in-Some.table.now c.in-Some.ensures.lookup.3.0 c.in-Some.ensures.lookup.1
    ∙ ap (λ (files : List ParsedFile). called_at (declarations (map source_of files)) c.args.number c.args.name.now) c.self.view_is

pub returns-in-None : goal.returns-in-None
returns-in-None c =
    has_none seen_table c.deref.result.now (declarations (map source_of c.self.inside.resolver.0)) c.args.number c.args.name.now (ap (map seen_table) c.deref.ensures.value ∙ c.self.invariant.called)
    c.in-None.ensures.lookup.3
    ∙ ap (λ (files : List ParsedFile). called_at (declarations (map source_of files)) c.args.number c.args.name.now) c.self.view_is
