use Rattle.std.proofs.Common.{◌∙◌, ap, map, rules}
use Rattle.std.proofs.lemmas.Fn.{filter_same}
use Rattle.api_versions.specs.Seen.{folder_seen}
use Rattle.api_versions.proofs.Kept.{kept_seen}
use Rattle.api_versions.proofs.whole_folders.present.Goals as goal

pub returns : goal.returns
returns c =
    ap (map folder_seen) (filter_same _ (λ folder. folder.is_there) _ (λ x b f' k. search rules) _ _ c.retain.ensures.filtered)
    ∙ kept_seen folder_seen (λ f. f.is_there) c.args.folders.items
