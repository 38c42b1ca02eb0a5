use Rattle.std.proofs.Common.{◌≡◌, ℕ, List, string_bytes, ap, ◌∙◌}
use Rattle.std.specs.Str.{encode_utf8_all}
use Rattle.std.proofs.lemmas.Str.{encodes-chars, IsUtf8-string_bytes}
use Rattle.tree_make.specs.Made.{file_of}
use Rattle.tree_make.proofs.making.file_of.Goals as goal

pub returns : goal.returns
returns c =
    let path : encode_utf8_all c.from_string.result ≡ string_bytes c.in_ok-path.path = ap encode_utf8_all c.from_string.ensures ∙ encodes-chars (string_bytes c.in_ok-path.path) (IsUtf8-string_bytes c.in_ok-path.path) in
    ap (λ (p : List ℕ). record { path = p; bytes = c.from_vec.result }) (path ∙ c.in_ok-path.ensures)
    ∙ ap (λ (b : List ℕ). record { path = (file_of c.args.part c.args.k).path; bytes = b }) (c.from_vec.ensures ∙ ap (λ v. v.items) c.into_bytes.ensures.value ∙ c.in_ok-bytes.ensures)
