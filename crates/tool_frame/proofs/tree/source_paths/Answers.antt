use Rattle.std.proofs.Common.{◌≡◌, true, ap, ◌∙◌, map, rules, string_bytes, subst, sym}
use Rattle.std.specs.List.{filter}
use Rattle.std.specs.Prelude.{All}
use Rattle.std.proofs.lemmas.Fn.{filter_same}
use Rattle.std.proofs.lemmas.List.Elements.{filter_passes}
use Rattle.aidl_outside.proofs.lemmas.Telling.{tells}
use Rattle.tool_frame.specs.Trees.{is_source}
use Rattle.tool_frame.proofs.TreeFiles.{kept_seen}
use Rattle.tool_frame.proofs.tree.source_paths.Goals as goal

pub returns-clause-paths : goal.returns-clause-paths
returns-clause-paths g c =
    let same : map string_bytes c.retain.new.self.items ≡ filter is_source (map string_bytes c.in_ok-paths.paths.items) =
    ap (map string_bytes) (filter_same _ (λ path. is_source (string_bytes path)) _ (λ x b f' k. search rules) _ _ c.retain.ensures.filtered) ∙ kept_seen string_bytes is_source c.in_ok-paths.paths.items in
    tells (g.S.Store.kept c.args.store.now) _ _ (λ files all. same ∙ ap (filter is_source) all) c.in_ok-paths.ensures.listed

pub returns-clause-sources : goal.returns-clause-sources
returns-clause-sources g c =
    let same : map string_bytes c.retain.new.self.items ≡ filter is_source (map string_bytes c.in_ok-paths.paths.items) =
    ap (map string_bytes) (filter_same _ (λ path. is_source (string_bytes path)) _ (λ x b f' k. search rules) _ _ c.retain.ensures.filtered) ∙ kept_seen string_bytes is_source c.in_ok-paths.paths.items in
    subst (All (λ path. is_source path ≡ true)) (sym same) (filter_passes is_source (map string_bytes c.in_ok-paths.paths.items))
