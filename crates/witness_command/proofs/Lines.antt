-- The lines of a call, by what was found of it.
use Rattle.std.proofs.Common.{◌≡◌, ◌∙◌, ℕ, Bool, List, ◌++◌, Option, codes, sym, ap, subst}
use Rattle.growing.specs.Grows.{Grows}
use Rattle.growing.specs.declared.text.GrowingText.{GrowingText}
use Rattle.growing.proofs.lemmas.Chains.{both_grow}
use Rattle.aidl_schema.specs.declared.schema.Decl.{Decl}
use Rattle.compat_witness.specs.Candidates.{Candidate, bytes_of, client_of, server_of, read_side}
use Rattle.compat_witness.specs.Sides.{Side}
use Rattle.witness_calls.specs.declared.showing.Showing.{Showing}
use Rattle.witness_calls.specs.Seen.{reading_seen}
use Rattle.witness_calls.specs.Showing.{ShowsIt}
use Rattle.wire_model.specs.Calls.{descriptor}
use Rattle.wire_model.specs.Outcome.{declared_as}
use Rattle.witness_command.specs.CallLines.{call_line, call_lines, lines_between, side_line, side_lines}

-- by the name of the client's interface, the server's interface of this name, and the call's bytes as the code has them
pub between : (A B : List Decl) (c : Candidate) (name given bytes : List ℕ) (at : Option ℕ) (read projected : Side) (old first second third : GrowingText) → name ≡ descriptor A c.interface
    → at ≡ declared_as B name → given ≡ bytes → Grows old first (call_line name A c given) → Grows first second (side_line (codes "read ") B at read)
    → Grows second third (side_line (codes "projected ") B at projected) → Grows old third (lines_between A B c bytes read projected)
between A B c name given bytes at read projected old first second third is declared are one two three =
    let sides : Option ℕ → List ℕ = λ (z : Option ℕ). side_line (codes "read ") B z read ++ side_line (codes "projected ") B z projected in
    subst (λ (z : List ℕ). Grows old third z)
    (ap (λ (z : Option ℕ). call_line name A c given ++ sides z) declared ∙ ap (λ (z : List ℕ). call_line z A c given ++ side_lines z B read projected) is
    ∙ ap (λ (z : List ℕ). call_line (descriptor A c.interface) A c z ++ side_lines (descriptor A c.interface) B read projected) are)
    (both_grow old first third (call_line name A c given) (sides at) one
    (both_grow first second third (side_line (codes "read ") B at read) (side_line (codes "projected ") B at projected) two three))

-- by what a call shows
lines_shown : (old new A B : List Decl) (c : Candidate) (s : Showing) (back : Bool) → A ≡ client_of back old new → B ≡ server_of back old new → c.back ≡ back → ShowsIt old new c s
    → lines_between A B c s.bytes (reading_seen s.read) (reading_seen s.projected) ≡ call_lines old new c
lines_shown old new A B c s back client server way shows =
    ap (λ (z : List Decl). lines_between z B c s.bytes (reading_seen s.read) (reading_seen s.projected)) client
    ∙ ap (λ (z : List Decl). lines_between (client_of back old new) z c s.bytes (reading_seen s.read) (reading_seen s.projected)) server
    ∙ ap (λ (b : Bool). lines_between (client_of b old new) (server_of b old new) c s.bytes (reading_seen s.read) (reading_seen s.projected)) (sym way)
    ∙ ap (λ z. lines_between (client_of c.back old new) (server_of c.back old new) c z (reading_seen s.read) (reading_seen s.projected)) shows.bytes
    ∙ ap (λ (z : Side). lines_between (client_of c.back old new) (server_of c.back old new) c (bytes_of old new c) z (reading_seen s.projected)) shows.read
    ∙ ap (λ (z : Side). lines_between (client_of c.back old new) (server_of c.back old new) c (bytes_of old new c) (read_side old new c) z) shows.projected

pub shown_between : (old new A B : List Decl) (c : Candidate) (s : Showing) (back : Bool) (before now : GrowingText) → A ≡ client_of back old new → B ≡ server_of back old new → c.back ≡ back
    → ShowsIt old new c s → Grows before now (lines_between A B c s.bytes (reading_seen s.read) (reading_seen s.projected)) → Grows before now (call_lines old new c)
shown_between old new A B c s back before now client server way shows pushed =
    subst (λ z. Grows before now z) (lines_shown old new A B c s back client server way shows) pushed
