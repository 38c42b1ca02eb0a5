use Rattle.std.proofs.Common.{◌≡◌, map, take}
use Rattle.name_resolution.specs.Imports.{meant_through}
use Rattle.name_resolution.proofs.imported.without_copies.Given as goal

-- names mean what they mean through the imports so far
abbrev pub invariant-loop-import : goal.invariant-loop-import
invariant-loop-import l = meant_through (map (λ d. d.now) l.kept.items) ≡ meant_through (take l.import-index l.imports)
