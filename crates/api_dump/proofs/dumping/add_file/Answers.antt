use Rattle.std.proofs.Common.{rules, ◌≡◌, ◌∙◌, ap, sym, subst, refl, map, true, is_none, string_bytes, if◌then◌else◌}
use Rattle.std.proofs.Common.{List}
use Rattle.api_dump.specs.Dump.{File, file_of, path_of, placed}
use Rattle.api_dump.proofs.Placing.{inserted}
use Rattle.api_dump.proofs.dumping.add_file.Goals as goal

pub returns-in_ok-insert : goal.returns-in_ok-insert
returns-in_ok-insert c =
    let S = c.args.decls.now in let d = c.args.decl.now in
    let files : List File = map (λ e. (string_bytes e.0, string_bytes e.1)) c.args.texts.now.entries in
    let test : is_none d.outer ≡ true = search rules in
    let path : string_bytes c.in_ok-path.path ≡ path_of d.name.0 = c.in_ok-path.ensures ∙ ap path_of c.as_slice.ensures in
    subst (λ t. map (λ e. (string_bytes e.0, string_bytes e.1)) c.insert.new.self.entries ≡ if t then placed files (file_of S (c.args.number, d)) else files) (sym test)
    (ap (map (λ e. (string_bytes e.0, string_bytes e.1))) c.in_ok-insert.ensures.entries
    ∙ inserted (λ s. string_bytes s) (λ s. string_bytes s) _ (λ a b. refl) c.args.texts.now.entries c.in_ok-path.path c.in_ok-text.text
    ∙ ap (λ bs. placed files (bs, string_bytes c.in_ok-text.text)) path ∙ ap (λ bs. placed files (path_of d.name.0, bs)) c.in_ok-text.ensures)
