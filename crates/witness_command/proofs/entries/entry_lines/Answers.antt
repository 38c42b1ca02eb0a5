use Rattle.std.proofs.Common.{◌≡◌, ◌∙◌, ◌+◌, ◌<◌, List, [], ◌∷◌, ◌++◌, get_or, length, map, take, string_bytes, sym, ap, subst, arith}
use Rattle.std.proofs.lemmas.List.{map-append, take_more}
use Rattle.aidl_schema.specs.Broken.{Break, broken}
use Rattle.compat_judge.specs.Seen.{seen}
use Rattle.compat_judge.specs.declared.judging.Broken.{Broken}
use Rattle.witness_search.specs.Seen.{shown_seen}
use Rattle.witness_command.specs.Entries.{AreEntries}
use Rattle.witness_command.proofs.Added.{entry_added, has}
use Rattle.witness_command.proofs.entries.entry_lines.Goals as goal

pub witness_of-requires : goal.witness_of-requires
witness_of-requires c =
    let rows = c.args.rows.now in
    let lies : c.loop-row.row-index < length rows = omega arith in
    record { among = has (broken c.args.pair.now.old c.args.pair.now.new) rows c.loop-row.row-index c.row-item.result c.requires lies c.row-item.is }

pub loop-row-preserved : goal.loop-row-preserved
loop-row-preserved c = λ whole.
    let rows = c.args.rows.now in
    let i = c.loop-row.row-index in
    let row = c.row-item.result in
    let lies : i < length rows = omega arith in
    let before = map seen (take i rows) in
    let more : map seen (take (i + 1) rows) ≡ before ++ seen row ∷ [] =
    ap (λ (z : List Broken). map seen z) (take_more rows i row lies) ∙ map-append seen (take i rows) (get_or rows i row ∷ [])
    ∙ ap (λ (z : Broken). before ++ seen z ∷ []) (sym c.row-item.is) in
    subst (λ (z : List Break). AreEntries c.args.pair.now.old c.args.pair.now.new z (string_bytes c.push_entry.new.text.text)) (sym more)
    (entry_added c.args.pair.now.old c.args.pair.now.new (seen row) before (shown_seen c.in_ok-shown.shown) c.loop-row.text c.push_entry.new.text
    c.in_ok-shown.ensures.exact c.in_ok-shown.ensures.allowed c.loop-row.invariant c.push_entry.ensures whole)
