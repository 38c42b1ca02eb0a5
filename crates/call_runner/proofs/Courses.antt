-- What the log gains, step by step, and what was carried where a fault comes.
use Rattle.std.proofs.Common.{◌≡◌, ℕ, Bool, true, List, [], ◌∷◌, ◌++◌, Option, Some, None, Ok, refl, sym, ap, ◌∙◌, subst, append_assoc, append-nil}
use Rattle.std.proofs.lemmas.List.Elements.{All-nil, All-cons, All-head, All-tail}
use Rattle.aidl_base.specs.declared.profile.Profile.{Profile}
use Rattle.aidl_outside.specs.declared.link.Carried.{Carried}
use Rattle.aidl_outside.specs.declared.link.Way.TheVariants.{Reply}
use Rattle.aidl_outside.specs.Carries.{AreFaithful, entry as carried_entry}
use Rattle.aidl_outside.specs.Faults.{FailedIn, LinkFaults}
use Rattle.aidl_outside.specs.Parcel.{parcel_of}
use Rattle.aidl_outside.specs.Told.{Adds}
use Rattle.aidl_schema.specs.declared.schema.Decl.{Decl}
use Rattle.call_runner.specs.declared.exchange.Exchange.{Exchange}
use Rattle.call_runner.specs.declared.line.RunFault.{RunFault}
use Rattle.call_runner.specs.declared.line.RunFault.TheVariants.{LinkFault, OutOfMemory}
use Rattle.call_runner.specs.Lines.{call_code, entries, received_at, reply_at, reply_entries, reply_sent, request_entry}
use Rattle.call_runner.specs.Runs.{IsFirst, IsReplied, Stops}
use Rattle.call_runner.specs.steps.Exchanges.{IsExchange, WhereLinkFailed, carried_of, delivered_of, listed}
use Rattle.call_runner.specs.steps.Served.{IsServed}
use Rattle.call_scripts.specs.Calls.{CallData}
use Rattle.stub_dispatch.specs.declared.answered.Answered.{Answered}

pub adds_none : {T : Type 0} (before now : Option (List T)) → now ≡ before → Adds before now []
adds_none None now e = e
adds_none {T} (Some l) now e = e ∙ ap (λ xs. let o : Option (List T) = Some xs in o) (sym (append-nil l))

pub adds_more : {T : Type 0} (before mid now : Option (List T)) (xs ys : List T) → Adds before mid xs → Adds mid now ys → Adds before now (xs ++ ys)
adds_more {T} None mid now xs ys e f = subst (λ (o : Option (List T)). Adds o now ys) e f
adds_more {T} (Some l) mid now xs ys e f = subst (λ (o : Option (List T)). Adds o now ys) e f ∙ ap (λ zs. let o : Option (List T) = Some zs in o) (append_assoc l xs ys)

pub none_faithful : AreFaithful []
none_faithful = All-nil (λ (entry : Carried). entry.delivered ≡ entry.sent)

pub one_faithful : (x : Carried) (xs : List Carried) → x.delivered ≡ x.sent → AreFaithful xs → AreFaithful (x ∷ xs)
one_faithful x xs e rest = All-cons (λ (entry : Carried). entry.delivered ≡ entry.sent) x xs e rest

-- where it is said that a call of the link failed
pub where_failed : (fault : RunFault) (Said : Type 0) → WhereLinkFailed fault Said → fault ≡ LinkFault → Said
where_failed LinkFault Said h is = h
where_failed OutOfMemory Said h is = absurd cc

module _ (p : Profile) (A B : List Decl) (c : CallData) (faithful : Bool) (before : Option (List Carried)) where
  -- the request wasn't carried
  pub stops_first : (now : Option (List Carried)) (faults : LinkFaults) (fault : RunFault) → now ≡ before
      → WhereLinkFailed fault (FailedIn faults (λ sent. sent ≡ parcel_of (request_entry A c []))) → Stops p A B (Ok c) faithful before now faults fault
  stops_first now faults fault e due = ([], [], [], entries p A B c [] [], refl, adds_none before now e, (λ _. none_faithful), where_failed fault _ due)

  -- the request was carried, and what was due then wasn't
  pub stops_then : (now : Option (List Carried)) (faults : LinkFaults) (fault : RunFault) (request : Carried) → request ≡ request_entry A c request.delivered
      → Adds before now (request ∷ []) → (faithful ≡ true → request.delivered ≡ request.sent)
      → (fault ≡ LinkFault → FailedIn faults (IsFirst (reply_entries (call_code A c) (reply_sent p A B c request.delivered) []))) → Stops p A B (Ok c) faithful before now faults fault
  stops_then now faults fault request is adds same due =
      let b = request.delivered in
      let rest = reply_entries (call_code A c) (reply_sent p A B c b) [] in
      (b, [], request ∷ [], rest, ap (λ (x : Carried). x ∷ rest) (sym is), adds, (λ e. one_faithful request [] (same e) none_faithful), due)

  -- the same of the reply
  pub stops_reply : (mid now : Option (List Carried)) (faults : LinkFaults) (fault : RunFault) (request : Carried) → request ≡ request_entry A c request.delivered
      → Adds before mid (request ∷ []) → now ≡ mid → (faithful ≡ true → request.delivered ≡ request.sent) → (bytes : List ℕ) → bytes ≡ request.delivered
      → (a : Answered) → IsServed B c.server c.target (received_at p B c.server request.code bytes) a
      → WhereLinkFailed fault (FailedIn faults (IsFirst (reply_entries request.code a.reply []))) → Stops p A B (Ok c) faithful before now faults fault
  stops_reply mid now faults fault request is adds still same bytes e a served due =
      let code : request.code ≡ call_code A c = ap (λ (x : Carried). x.code) is in
      let reply : a.reply ≡ reply_sent p A B c request.delivered = served.reply ∙ ap (λ k. reply_at B c.server c.target (received_at p B c.server k bytes)) code
      ∙ ap (λ b. reply_at B c.server c.target (received_at p B c.server (call_code A c) b)) e in
      stops_then now faults fault request is (subst (λ (o : Option (List Carried)). Adds before o (request ∷ [])) (sym still) adds) same
      (λ lost. subst (λ r. FailedIn faults (IsFirst (reply_entries (call_code A c) r []))) reply
      (subst (λ k. FailedIn faults (IsFirst (reply_entries k a.reply []))) code (where_failed fault _ due lost)))

  -- what is carried is the entries of the call
  pub carried_entries : (x : Exchange) → IsExchange p A B c x → carried_of x ≡ entries p A B c x.request.delivered (delivered_of x.reply)
  carried_entries x is = sym (ap (λ (e : Carried). e ∷ reply_entries (call_code A c) (reply_sent p A B c x.request.delivered) (delivered_of x.reply)) (sym is.request)
      ∙ ap (λ es. x.request ∷ es) (sym is.reply))

  -- all was carried
  pub stops_last : (now : Option (List Carried)) (faults : LinkFaults) (x : Exchange) → IsExchange p A B c x → Adds before now (carried_of x) → (faithful ≡ true → AreFaithful (carried_of x))
      → Stops p A B (Ok c) faithful before now faults OutOfMemory
  stops_last now faults x is adds same =
      (x.request.delivered, delivered_of x.reply, carried_of x, [], sym (carried_entries x is) ∙ sym (append-nil (carried_of x)), adds, same, (λ e. cc))

-- over a link that delivers what was sent
pub request_same : (x : Exchange) → AreFaithful (carried_of x) → x.request.delivered ≡ x.request.sent
request_same x same = All-head (λ (entry : Carried). entry.delivered ≡ entry.sent) x.request (listed x.reply) same

pub reply_same : (p : Profile) (A B : List Decl) (c : CallData) (x : Exchange) → IsExchange p A B c x → AreFaithful (carried_of x) → IsReplied (reply_sent p A B c x.request.delivered) (delivered_of x.reply)
reply_same p A B c x is same = by_reply x.reply (reply_sent p A B c x.request.delivered) is.reply (All-tail (λ (entry : Carried). entry.delivered ≡ entry.sent) x.request (listed x.reply) same)
  where
    by_reply : (o : Option Carried) (s : Option (List ℕ)) → listed o ≡ reply_entries (call_code A c) s (delivered_of o) → AreFaithful (listed o) → IsReplied s (delivered_of o)
    by_reply o None e same = tt
    by_reply None (Some sent) e same = cc
    by_reply (Some entry) (Some sent) e same =
        let one : entry.delivered ≡ entry.sent = All-head (λ (entry : Carried). entry.delivered ≡ entry.sent) entry [] same in
        let first : entry ≡ carried_entry Reply (call_code A c) sent entry.delivered = cc in
        one ∙ ap (λ (x : Carried). x.sent) first
