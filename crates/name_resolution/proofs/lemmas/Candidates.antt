-- Candidates are tried one after the other.
use Rattle.std.proofs.Common.{◌≡◌, ◌<◌, ◌-◌, ℕ, suc, zero, List, [], ◌∷◌, ◌++◌, map, length, Option, Some, None, option_map, refl, sym, ◌∙◌, ap, arith}
use Rattle.std.specs.List.{slice_get}
use Rattle.std.proofs.lemmas.Option.{slice_get-map}
use Rattle.aidl_base.specs.declared.name.Ident.{Ident}
use Rattle.name_resolution.specs.declared.meaning.Resolved.{Resolved}
use Rattle.name_resolution.specs.declared.meaning.Resolved.TheVariants.{Declared}
use Rattle.declared_names.specs.declared.found.Found.{Found}
use Rattle.declared_names.specs.Names.{parts_of}
use Rattle.aidl_syntax.specs.Sources.{Source}
use Rattle.declared_names.specs.Declarations.{Entry}
use Rattle.name_resolution.specs.Resolution.{number_of, first_declared, enclosing, imported, candidates, or_else}
use Rattle.declared_names.specs.Entries.{entry_of}

-- of two lists of candidates the second follows the first
pub first-append : (es : List Entry) (xs ys : List (List Ident)) → first_declared es (xs ++ ys) ≡ or_else (first_declared es xs) (first_declared es ys)
first-append es [] ys = refl
first-append es (x ∷ xs) ys = go (number_of es x) (first-append es xs ys) where
  go : (n : Option ℕ) → first_declared es (xs ++ ys) ≡ or_else (first_declared es xs) (first_declared es ys)
      → elim n as (λ _. Option Resolved) [ None ↦ first_declared es (xs ++ ys) | Some number ↦ Some (Declared number) ]
      ≡ or_else (elim n as (λ _. Option Resolved) [ None ↦ first_declared es xs | Some number ↦ Some (Declared number) ]) (first_declared es ys)
  go None h = h
  go (Some number) h = refl

-- the candidates of a name: the name, those of enclosing declarations, those of imports, that of the package
pub tried : (es : List Entry) (file : Source) (scope n : ℕ) (name : List Ident) (a b c d : Option Resolved)
    → a ≡ first_declared es (([] ++ name) ∷ []) → n ≡ length es
    → b ≡ first_declared es (map (λ around. around ++ name) (enclosing es n (Some scope)))
    → c ≡ first_declared es (imported file.tree.imports name) → d ≡ first_declared es ((parts_of file.tree.«package» ++ name) ∷ [])
    → or_else a (or_else (or_else b c) d) ≡ first_declared es (candidates es file scope name)
tried es file scope n name a b c d ea en eb ec ed =
    let inner = map (λ around. around ++ name) (enclosing es (length es) (Some scope)) in
    let rest = imported file.tree.imports name in
    let last = (parts_of file.tree.«package» ++ name) ∷ [] in
    let eb' : b ≡ first_declared es inner = eb ∙ ap (λ (m : ℕ). first_declared es (map (λ around. around ++ name) (enclosing es m (Some scope)))) en in
    ap (λ z. or_else z (or_else (or_else b c) d)) ea
    ∙ ap (λ z. or_else (first_declared es (name ∷ [])) (or_else (or_else z c) d)) eb'
    ∙ ap (λ z. or_else (first_declared es (name ∷ [])) (or_else (or_else (first_declared es inner) z) d)) ec
    ∙ ap (λ z. or_else (first_declared es (name ∷ [])) (or_else (or_else (first_declared es inner) (first_declared es rest)) z)) ed
    ∙ ap (λ z. or_else (first_declared es (name ∷ [])) (or_else z (first_declared es last))) (sym (first-append es inner rest))
    ∙ ap (λ z. or_else (first_declared es (name ∷ [])) z) (sym (first-append es (inner ++ rest) last))
    ∙ sym (first-append es (name ∷ []) (inner ++ rest ++ last))

-- an enclosing declaration that doesn't have the name: those that enclose it are asked
pub outward : (found : List Found) (levels number : ℕ) (f : Found) (name : List Ident)
    → 0 < levels → slice_get found number ≡ Some f → first_declared (map entry_of found) ((f.name.0 ++ name) ∷ []) ≡ None
    → first_declared (map entry_of found) (map (λ around. around ++ name) (enclosing (map entry_of found) (levels - 1) f.outer))
    ≡ first_declared (map entry_of found) (map (λ around. around ++ name) (enclosing (map entry_of found) levels (Some number)))
outward found zero number f name lt is none = absurd (omega arith)
outward found (suc levels) number f name lt is none =
    let es = map entry_of found in
    let k : suc levels - 1 ≡ levels = omega arith in
    ap (λ (m : ℕ). first_declared es (map (λ around. around ++ name) (enclosing es m f.outer))) k
    ∙ ap (λ z. or_else z (first_declared es (map (λ around. around ++ name) (enclosing es levels f.outer)))) (sym none)
    ∙ sym (first-append es ((f.name.0 ++ name) ∷ []) (map (λ around. around ++ name) (enclosing es levels f.outer)))
    ∙ ap (λ (o : Option Entry). first_declared es (map (λ around. around ++ name) (elim o as (λ _. List (List Ident)) [ None ↦ [] | Some e ↦ e.name ∷ enclosing es levels e.outer ]))) (sym (slice_get-map entry_of found number ∙ ap (option_map entry_of) is))

-- an enclosing declaration that has the name
pub inward : (found : List Found) (levels number : ℕ) (f : Found) (name : List Ident) (meaning : Resolved)
    → 0 < levels → slice_get found number ≡ Some f → Some meaning ≡ first_declared (map entry_of found) ((f.name.0 ++ name) ∷ [])
    → Some meaning ≡ first_declared (map entry_of found) (map (λ around. around ++ name) (enclosing (map entry_of found) levels (Some number)))
inward found zero number f name meaning lt is some = absurd (omega arith)
inward found (suc levels) number f name meaning lt is some =
    let es = map entry_of found in
    ap (λ z. or_else z (first_declared es (map (λ around. around ++ name) (enclosing es levels f.outer)))) some
    ∙ sym (first-append es ((f.name.0 ++ name) ∷ []) (map (λ around. around ++ name) (enclosing es levels f.outer)))
    ∙ ap (λ (o : Option Entry). first_declared es (map (λ around. around ++ name) (elim o as (λ _. List (List Ident)) [ None ↦ [] | Some e ↦ e.name ∷ enclosing es levels e.outer ]))) (sym (slice_get-map entry_of found number ∙ ap (option_map entry_of) is))
