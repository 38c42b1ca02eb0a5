-- What a call shows, by its two sides.
use Rattle.std.proofs.Common.{◌≡◌, ℕ, ◌+◌, ◌<◌, zero, suc, Bool, true, false, not, List, [], ◌∷◌, length, Option, Some, None, slice_get, refl, sym, ap, ◌∙◌, subst, arith}
use Rattle.std.specs.Prelude.{ℤ, ◌↔◌, IsTrue, Result, Err}
use Rattle.aidl_base.specs.declared.profile.Profile.TheVariants.{Strict}
use Rattle.aidl_schema.specs.declared.schema.Decl.{Decl}
use Rattle.aidl_schema.specs.declared.schema.Method.{Method}
use Rattle.aidl_schema.specs.Find.{methods_at, position_of_code}
use Rattle.aidl_values.specs.Data.{Items}
use Rattle.wire_model.specs.Calls.{code_of, descriptor, method_at}
use Rattle.wire_model.specs.MethodOf.{MethodOf, method_of}
use Rattle.wire_model.specs.Outcome.{declared_as, method_like}
use Rattle.wire_model.specs.Receiver.{Received}
unfoldable use Rattle.wire_model.specs.Receiver.{stub}
use Rattle.wire_model.specs.Status.{unknown_transaction}
use Rattle.compat_witness.specs.Candidates.{Candidate, Values, arguments, answered, ValuesFit, IsAnswerAt, at_method, bytes_of, client_of, fit_between, server_of, counterpart, read_side, projected_side}
use Rattle.compat_witness.specs.Sides.{Side, transport, read_request, received_by, projected_request, side_of}
unfoldable use Rattle.compat_witness.specs.Sides.{projected_call}
use Rattle.witness_calls.specs.declared.showing.Showing.{Showing}
use Rattle.witness_calls.specs.declared.showing.Tried.{Tried}
use Rattle.witness_calls.specs.declared.reading.Reading.{Reading}
use Rattle.witness_calls.specs.Seen.{reading_seen}
use Rattle.witness_calls.specs.Showing.{IsTried, ShowsIt, Tries}
use Rattle.witness_calls.specs.Counted.{AreCounted, AreWeighed, NoneCount, IsCounted, IsWeighedBetween}
use Rattle.witness_calls.specs.steps.Projected.{called_at}
use Rattle.witness_calls.specs.steps.Shown.{IsShownBy, ShowsBy}
use Rattle.witness_calls.proofs.NoCode.{no_code}
use Rattle.witness_calls.proofs.Tests.{back_way, fails}

-- Bytes and sides

pub weighed : (Fits : Type 0) (bytes : List ℕ) (o : Option (List ℕ)) (spelled sent : List ℕ) (R : List ℕ → Side) (p : Side) (r q : Reading)
    → IsCounted Fits bytes o → o ≡ Some spelled → sent ≡ spelled → reading_seen r ≡ R sent → reading_seen q ≡ p
    → AreWeighed Fits bytes (R bytes) p (record { bytes = spelled; read = r; projected = q })
weighed Fits bytes o spelled sent R p r q counted is same e f =
    let n : AreCounted Fits bytes spelled = subst (λ z. IsCounted Fits bytes z) is counted in
    record { bytes = n; read = e ∙ ap R (same ∙ n.are); projected = f }

pub uncounted : (Fits : Type 0) (bytes : List ℕ) (o : Option (List ℕ)) → IsCounted Fits bytes o → o ≡ None → NoneCount Fits bytes
uncounted Fits bytes o counted is = subst (λ z. IsCounted Fits bytes z) is counted

-- what counts shows what its sides show
shown_tried : (old new : List Decl) (call : Candidate) (s : Showing) (t : Tried)
    → AreWeighed (ValuesFit old new call) (bytes_of old new call) (read_side old new call) (projected_side old new call) s → IsShownBy s t → IsTried old new call t
shown_tried old new call s t w h = record { tries = by t.showing h.shows; short = λ e fits. w.bytes.small }
  where
    by : (o : Option Showing) → ShowsBy s o → Tries old new call o
    by None e = λ x. x.differs (sym w.read ∙ e ∙ w.projected)
    by (Some z) h = subst (λ y. ShowsIt old new call y) (sym h.0) (record {
      is_shown = record { counts = record { fits = w.bytes.fits; small = w.bytes.small }; differs = λ e. h.1 (w.read ∙ e ∙ sym w.projected) };
      bytes = w.bytes.are;
      read = w.read;
      projected = w.projected;
    })

-- the same of what is weighed
at_ends : (A B C D : List Decl) (i m : ℕ) (v : Values) (o p : Option Showing) → A ≡ C → B ≡ D → o ≡ p → IsWeighedBetween (method_of A i m) B v o → IsWeighedBetween (method_of C i m) D v p
at_ends A B C D i m v o p a b is w =
    subst (λ z. IsWeighedBetween (method_of C i m) D v z) is (subst (λ z. IsWeighedBetween (method_of C i m) z v o) b (subst (λ z. IsWeighedBetween (method_of z i m) B v o) a w))

pub weighed_tried : (old new : List Decl) (call : Candidate) (A B : List Decl) → A ≡ client_of call.back old new → B ≡ server_of call.back old new
    → (o : Option Showing) (s : Showing) (t : Tried) → IsWeighedBetween (method_of A call.interface call.method) B call.values o → o ≡ Some s → IsShownBy s t → IsTried old new call t
weighed_tried old new call A B a b o s t w is h =
    shown_tried old new call s t (at_ends A B (client_of call.back old new) (server_of call.back old new) call.interface call.method call.values o (Some s) a b is w) h

-- two sides that are the same, and two that aren't
pub same_shown : (s : Showing) (b : Bool) → (IsTrue b ↔ (reading_seen s.read ≡ reading_seen s.projected)) → b ≡ true → IsShownBy s (record { showing = None; short = true })
same_shown s b d e = record { shows = d.0 e; short = refl }

pub other_shown : (s : Showing) (b : Bool) → (IsTrue b ↔ (reading_seen s.read ≡ reading_seen s.projected)) → b ≡ false → IsShownBy s (record { showing = Some s; short = true })
other_shown s b d e = record { shows = (refl, fails b d e); short = refl }

-- what doesn't count shows nothing
pub none_tried : (old new : List Decl) (call : Candidate) (A B : List Decl) → A ≡ client_of call.back old new → B ≡ server_of call.back old new
    → (o : Option Showing) (fits : Bool) → IsWeighedBetween (method_of A call.interface call.method) B call.values o → o ≡ None
    → (fits ≡ false → (D : List Decl) → fit_between (method_of A call.interface call.method) D call.values → ⊥) → IsTried old new call (record { showing = None; short = not fits })
none_tried old new call A B a b o fits w is misfit =
    let n = at_ends A B (client_of call.back old new) (server_of call.back old new) call.interface call.method call.values o None a b is w in
    record {
      tries = λ s. n.nothing s.counts.fits s.counts.small;
      short = λ e h. absurd (misfit (back_way fits e) (server_of call.back old new) (subst (λ z. fit_between (method_of z call.interface call.method) (server_of call.back old new) call.values) (sym a) h));
    }

-- Without a method

none_there : {X : Type 0} (xs : List X) (i : ℕ) → (i < length xs → ⊥) → slice_get xs i ≡ None
none_there [] i h = refl
none_there (x ∷ xs) zero h = absurd (h (omega arith))
none_there (x ∷ xs) (suc i) h = none_there xs i (λ lt. h (omega (arith, lt)))

no_like : (o : Option Method) (ws : List Method) → o ≡ None → method_like o ws ≡ None
no_like None ws e = refl
no_like (Some v) ws e = cc

-- the code is nobody's
refused : (B : List Decl) (j code : ℕ) (b : List ℕ) → position_of_code (methods_at B j) code ≡ None → stub Strict B j code b ≡ Err unknown_transaction
unfolding stub
refused B j code b e = rw e refl

-- by the interface and the code that were found
read_in : (A : List Decl) (i m : ℕ) (B : List Decl) (j : ℕ) (v : Method) (b : List ℕ) → Some j ≡ declared_as B (descriptor A i) → method_at (method_of A i m) ≡ Some v
    → side_of (stub Strict B j (v.id + 1) b) ≡ read_request (method_of A i m) B b
read_in A i m B j v b at is =
    ap (λ o. side_of (stub Strict B j (code_of o) b)) (sym is) ∙ ap (λ o. side_of (received_by B o (code_of (method_at (method_of A i m))) b)) at

pub nobody_called : (A : List Decl) (i m : ℕ) (B : List Decl) (j : ℕ) (v : Method) (b : List ℕ) → Some j ≡ declared_as B (descriptor A i) → method_at (method_of A i m) ≡ Some v
    → None ≡ position_of_code (methods_at B j) (v.id + 1) → transport unknown_transaction ≡ read_request (method_of A i m) B b
nobody_called A i m B j v b at is e =
    sym (ap side_of (refused B j (v.id + 1) b (sym e))) ∙ read_in A i m B j v b at is

-- what the method of the code makes of it
pub somebody_called : (A : List Decl) (i m : ℕ) (B : List Decl) (j : ℕ) (v : Method) (b : List ℕ) (n : ℕ) (s : MethodOf) (received : Result Received ℤ) (seen : Side)
    → Some j ≡ declared_as B (descriptor A i) → method_at (method_of A i m) ≡ Some v → Some n ≡ position_of_code (methods_at B j) (v.id + 1) → s ≡ method_of B j n
    → ((q : ℕ) → position_of_code (methods_at s.declarations s.interface) q ≡ Some s.method → received ≡ stub Strict s.declarations s.interface q b) → seen ≡ side_of received
    → seen ≡ read_request (method_of A i m) B b
somebody_called A i m B j v b n s received seen at is found same of e =
    let By : MethodOf → Type 0 = λ z. (q : ℕ) → position_of_code (methods_at z.declarations z.interface) q ≡ Some z.method → received ≡ stub Strict z.declarations z.interface q b in
    e ∙ ap side_of (subst By same of (v.id + 1) (sym found)) ∙ read_in A i m B j v b at is

lacks : (A : List Decl) (i m : ℕ) (B : List Decl) (j : ℕ) (args : Items) → declared_as B (descriptor A i) ≡ Some j → method_like (method_at (method_of A i m)) (methods_at B j) ≡ None
    → projected_request (method_of A i m) B args ≡ transport unknown_transaction
unfolding projected_call
lacks A i m B j args at e = rw (at, e) refl

lacks_all : (A : List Decl) (i m : ℕ) (B : List Decl) (args : Items) → declared_as B (descriptor A i) ≡ None → projected_request (method_of A i m) B args ≡ transport unknown_transaction
unfolding projected_call
lacks_all A i m B args at = rw at refl

has : (A : List Decl) (i m : ℕ) (B : List Decl) (j n : ℕ) (args : Items) → declared_as B (descriptor A i) ≡ Some j → method_like (method_at (method_of A i m)) (methods_at B j) ≡ Some n
    → projected_request (method_of A i m) B args ≡ side_of (called_at (method_of A i m) (method_of B j n) args)
unfolding projected_call
has A i m B j n args at e = rw (at, e) refl

-- what a request is projected to by the counterpart of its method, and without one
projected_by : (A : List Decl) (i m : ℕ) (B : List Decl) (args : Items)
    → at_method (transport unknown_transaction) (λ b. side_of (called_at (method_of A i m) b args)) (counterpart (method_of A i m) B) ≡ projected_request (method_of A i m) B args
projected_by A i m B args = by_declared (declared_as B (descriptor A i)) refl
  where
    Q : Option MethodOf → Side
    Q o = at_method (transport unknown_transaction) (λ b. side_of (called_at (method_of A i m) b args)) o

    by_method : (j : ℕ) → declared_as B (descriptor A i) ≡ Some j → (o : Option ℕ) → method_like (method_at (method_of A i m)) (methods_at B j) ≡ o → Q (counterpart (method_of A i m) B) ≡ projected_request (method_of A i m) B args
    by_method j at None e = let none : counterpart (method_of A i m) B ≡ None = rw (at, e) refl in ap Q none ∙ sym (lacks A i m B j args at e)
    by_method j at (Some n) e = let one : counterpart (method_of A i m) B ≡ Some (method_of B j n) = rw (at, e) refl in ap Q one ∙ sym (has A i m B j n args at e)

    by_declared : (o : Option ℕ) → declared_as B (descriptor A i) ≡ o → Q (counterpart (method_of A i m) B) ≡ projected_request (method_of A i m) B args
    by_declared None at = let none : counterpart (method_of A i m) B ≡ None = rw at refl in ap Q none ∙ sym (lacks_all A i m B args at)
    by_declared (Some j) at = by_method j at (method_like (method_at (method_of A i m)) (methods_at B j)) refl

pub nowhere_called : (A : List Decl) (i m : ℕ) (B : List Decl) (args : Items) → None ≡ counterpart (method_of A i m) B → transport unknown_transaction ≡ projected_request (method_of A i m) B args
nowhere_called A i m B args e =
    ap (at_method (transport unknown_transaction) (λ b. side_of (called_at (method_of A i m) b args))) e ∙ projected_by A i m B args

pub called_there : (A : List Decl) (i m : ℕ) (B : List Decl) (args : Items) (s : MethodOf) (seen : Side) → Some s ≡ counterpart (method_of A i m) B
    → seen ≡ side_of (called_at (method_of A i m) s args) → seen ≡ projected_request (method_of A i m) B args
called_there A i m B args s seen e f =
    f ∙ ap (at_method (transport unknown_transaction) (λ b. side_of (called_at (method_of A i m) b args))) e ∙ projected_by A i m B args

no_method : (A : List Decl) (i m : ℕ) (B : List Decl) (args : Items) (b : List ℕ) → (m < length (methods_at A i) → ⊥) → read_request (method_of A i m) B b ≡ projected_request (method_of A i m) B args
no_method A i m B args b h = by_declared (declared_as B (descriptor A i)) refl
  where
    none : method_at (method_of A i m) ≡ None
    none = none_there (methods_at A i) m h

    by_declared : (o : Option ℕ) → declared_as B (descriptor A i) ≡ o → read_request (method_of A i m) B b ≡ projected_request (method_of A i m) B args
    by_declared None at = ap (λ o. side_of (received_by B o (code_of (method_at (method_of A i m))) b)) at ∙ sym (lacks_all A i m B args at)
    by_declared (Some j) at =
        ap (λ o. side_of (received_by B o (code_of (method_at (method_of A i m))) b)) at
        ∙ ap side_of (refused B j (code_of (method_at (method_of A i m))) b (ap (λ q. position_of_code (methods_at B j) q) (ap code_of none) ∙ no_code (methods_at B j)))
        ∙ sym (lacks A i m B j args at (no_like (method_at (method_of A i m)) (methods_at B j) none))

no_counterpart : (A : List Decl) (i m : ℕ) (B : List Decl) → (m < length (methods_at A i) → ⊥) → counterpart (method_of A i m) B ≡ None
no_counterpart A i m B h = by_declared (declared_as B (descriptor A i)) refl
  where
    by_declared : (o : Option ℕ) → declared_as B (descriptor A i) ≡ o → counterpart (method_of A i m) B ≡ None
    by_declared None at = rw at refl
    by_declared (Some j) at = let none = no_like (method_at (method_of A i m)) (methods_at B j) (none_there (methods_at A i) m h) in rw (at, none) refl

-- what names no method shows nothing
nameless : (old new : List Decl) (back : Bool) (i m : ℕ) (v : Values) → (m < length (methods_at (client_of back old new) i) → ⊥)
    → Tries old new (record { back = back; interface = i; method = m; values = v }) None
nameless old new back i m (arguments args) h = λ s. s.differs (no_method (client_of back old new) i m (server_of back old new) args _ h)
nameless old new back i m (answered answer) h = λ s.
    subst (λ o. IsAnswerAt o answer) (no_counterpart (client_of back old new) i m (server_of back old new) h) s.counts.fits

pub nothing_named : (old new : List Decl) (call : Candidate) (A : List Decl) → A ≡ client_of call.back old new → (call.method < length (methods_at A call.interface) → ⊥)
    → IsTried old new call (record { showing = None; short = false })
nothing_named old new call A a h =
    record { tries = nameless old new call.back call.interface call.method call.values (subst (λ z. call.method < length (methods_at z call.interface) → ⊥) a h); short = λ e. cc }
