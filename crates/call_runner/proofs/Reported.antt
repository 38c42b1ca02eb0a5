-- What a call comes to, by what was carried.
use Rattle.std.proofs.Common.{◌≡◌, ◌≢◌, ℕ, ℤ, pos, Bool, true, false, List, [], ◌∷◌, Option, Some, None, Result, Ok, Err, refl, sym, ◌∙◌}
use Rattle.std.specs.Ordering.{int_eq}
use Rattle.std.proofs.lemmas.Bool.Decides.{Decides-int_eq}
use Rattle.aidl_base.specs.declared.profile.Profile.{Profile}
use Rattle.aidl_outside.specs.declared.link.Carried.{Carried}
use Rattle.aidl_schema.specs.declared.schema.Decl.{Decl}
use Rattle.aidl_schema.specs.Find.{methods_at, position_of_code}
use Rattle.call_runner.specs.declared.line.Methods.{Methods}
use Rattle.call_runner.specs.Lines.{done, reply_at, reply_entries, reported}
use Rattle.call_runner.specs.Runs.{methods_by}
use Rattle.call_runner.specs.steps.Served.{saw_at, transport_of, unreplied_line}
use Rattle.call_runner.specs.steps.Typed.{method_in}
use Rattle.call_runner.proofs.Received.{coded}
use Rattle.call_scripts.specs.Calls.{CallData, TargetData}
use Rattle.wire_model.specs.Calls.{AnswerData}
use Rattle.wire_model.specs.Receiver.{Received, left, called, stub}

not_zero : (s : ℤ) → s ≢ pos 0 → int_eq s (pos 0) ≡ false
not_zero s ne = by_test (int_eq s (pos 0)) refl
  where
    by_test : (b : Bool) → int_eq s (pos 0) ≡ b → b ≡ false
    by_test true e = absurd (ne ((Decides-int_eq s (pos 0)).0 e))
    by_test false e = refl

-- where no reply is there, by the transport status
pub unreplied : (B : List Decl) (server : Option ℕ) (target : Option TargetData) (r : Result Received ℤ) (code : ℕ) (d : List ℕ) (got : Result AnswerData ℤ)
    → [] ≡ reply_entries code (reply_at B server target r) d → ((s : ℤ) → r ≡ Err s → s ≢ pos 0) → unreplied_line (transport_of r) (saw_at r) ≡ reported r (reply_at B server target r) got
unreplied B server target (Err s) code d got none ne = rw (not_zero s (ne s refl)) refl
unreplied B server target (Ok r) code d got none ne = by_reply (reply_at B server target (Ok r)) none
  where
    by_reply : (o : Option (List ℕ)) → [] ≡ reply_entries code o d → unreplied_line (transport_of (Ok r)) (saw_at (Ok r)) ≡ reported (Ok r) o got
    by_reply None none = refl
    by_reply (Some sent) none = cc

-- where one is there
pub replied : (B : List Decl) (server : Option ℕ) (target : Option TargetData) (r : Result Received ℤ) (code : ℕ) (d : List ℕ) (entry : Carried) (got : Result AnswerData ℤ)
    → entry ∷ [] ≡ reply_entries code (reply_at B server target r) d → done (saw_at r) got ≡ reported r (reply_at B server target r) got
replied B server target (Err s) code d entry got one = cc
replied B server target (Ok r) code d entry got one = by_reply (reply_at B server target (Ok r)) one
  where
    by_reply : (o : Option (List ℕ)) → entry ∷ [] ≡ reply_entries code o d → done (saw_at (Ok r)) got ≡ reported (Ok r) o got
    by_reply None one = cc
    by_reply (Some sent) one = refl

pub reply_there : (code : ℕ) (o : Option (List ℕ)) (d : List ℕ) (entry : Carried) → entry ∷ [] ≡ reply_entries code o d → (s : List ℕ) × (o ≡ Some s)
reply_there code None d entry e = cc
reply_there code (Some s) d entry e = (s, refl)

-- the methods by the transport status and the code
pub refused_methods : (c : CallData) (server : Option ℕ) (r : Result Received ℤ) → transport_of r ≢ pos 0 → None ≡ methods_by c server r
refused_methods c None r ne = refl
refused_methods c (Some j) (Err s) ne = refl
refused_methods c (Some j) (Ok r) ne = absurd (ne refl)

module _ (c : CallData) (p : Profile) (B : List Decl) (j code : ℕ) (b : List ℕ) where
  pub unfound_methods : position_of_code (methods_at B j) code ≡ None → None ≡ methods_by c (Some j) (stub p B j code b)
  unfound_methods none = by_stub (stub p B j code b) refl
    where
      by_stub : (x : Result Received ℤ) → stub p B j code b ≡ x → None ≡ methods_by c (Some j) x
      by_stub (Err s) e = refl
      by_stub (Ok r) e = let wrong = sym none ∙ coded p B j code b r e in cc

  pub found_methods : (n : ℕ) → position_of_code (methods_at B j) code ≡ Some n → ((s : ℤ) → stub p B j code b ≡ Err s → s ≢ pos 0) → transport_of (stub p B j code b) ≡ pos 0
      → Some (let m : Methods = record { interface = c.interface; method = c.method; server = j; called = n } in m) ≡ methods_by c (Some j) (stub p B j code b)
  found_methods n at ne zero = by_stub (stub p B j code b) refl zero
    where
      by_method : (r : Received) → stub p B j code b ≡ Ok r → n ≡ method_in r
      by_method r e = let same : ◌≡◌ {A = Option ℕ} (Some n) (Some (method_in r)) = sym at ∙ coded p B j code b r e in cc

      by_stub : (x : Result Received ℤ) → stub p B j code b ≡ x → transport_of x ≡ pos 0
          → Some (let m : Methods = record { interface = c.interface; method = c.method; server = j; called = n } in m) ≡ methods_by c (Some j) x
      by_stub (Err s) e zero = absurd (ne s e zero)
      by_stub (Ok (left k)) e zero = rw (by_method (left k) e) refl
      by_stub (Ok (called k saw)) e zero = rw (by_method (called k saw) e) refl
