-- Two runs of a command that means one thing at the most leave the same.
use Rattle.std.proofs.Common.{◌≡◌, ℕ, List, [], ◌∷◌, ◌++◌, append_assoc, append-nil, map, All, Option, Some, None, refl, sym, ap, subst, ◌∙◌, inl, inr}
use Rattle.std.proofs.lemmas.List.{append_cancel_left}
use Rattle.std.proofs.lemmas.List.Elements.{All-head, All-tail}
use Rattle.aidl_outside.specs.declared.link.Carried.{Carried}
use Rattle.aidl_outside.specs.declared.link.Way.{Way}
use Rattle.aidl_outside.specs.Files.{Files}
use Rattle.aidl_outside.specs.Carries.{AreFaithful}
use Rattle.aidl_outside.specs.Parcel.{Parcel, parcel_of}
use Rattle.aidl_outside.specs.Told.{Adds, Tells}
use Rattle.aidl_outside.specs.Writes.{written}
use Rattle.aidl_tool.specs.OneMeaning.{IsOne, MeansOne}
use Rattle.aidl_tool.specs.OneRun.{Agree, DeliverAlike, EndedOver, Run, RunsAgree}
use Rattle.tool_frame.specs.Answer.{Answer}
use Rattle.tool_frame.specs.Ended.{CarriedThese, EndsAsMeant, WroteAll}
use Rattle.tool_frame.specs.Meaning.{AreDue, Meaning, Meant}
use Rattle.tool_frame.specs.Meaning.Meant.{unknown, means}
use Rattle.tool_frame.specs.Verdict.{exit_of}

-- entries of one parcel with the same delivery
same_entry : (c d : Carried) → parcel_of c ≡ parcel_of d → c.delivered ≡ d.delivered → c ≡ d
same_entry c d parcel delivered =
    let way : c.way ≡ d.way = ap (λ (p : Parcel). p.way) parcel in
    let code : c.code ≡ d.code = ap (λ (p : Parcel). p.code) parcel in
    let sent : c.sent ≡ d.sent = ap (λ (p : Parcel). p.sent) parcel in
    let entry : Way → ℕ → List ℕ → List ℕ → Carried = λ w n s t. record { way = w; code = n; sent = s; delivered = t } in
    ap (λ w. entry w c.code c.sent c.delivered) way ∙ ap (λ n. entry d.way n c.sent c.delivered) code
    ∙ ap (λ s. entry d.way d.code s c.delivered) sent ∙ ap (λ t. entry d.way d.code d.sent t) delivered

-- as far as both go, like parcels have like deliveries
abbrev Alike : List Carried → List Carried → Type 0
Alike [] ds = Unit {0}
Alike (c ∷ es) [] = Unit {0}
Alike (c ∷ es) (d ∷ ds) = (parcel_of c ≡ parcel_of d → c.delivered ≡ d.delivered) × Alike es ds

faithful_alike : (es ds : List Carried) → AreFaithful es → AreFaithful ds → Alike es ds
faithful_alike [] ds h k = tt
faithful_alike (c ∷ es) [] h k = tt
faithful_alike (c ∷ es) (d ∷ ds) h k = (
  λ parcel. All-head (λ (e : Carried). e.delivered ≡ e.sent) c es h ∙ ap (λ (p : Parcel). p.sent) parcel ∙ sym (All-head (λ (e : Carried). e.delivered ≡ e.sent) d ds k),
  faithful_alike es ds (All-tail (λ (e : Carried). e.delivered ≡ e.sent) c es h) (All-tail (λ (e : Carried). e.delivered ≡ e.sent) d ds k),
)

delivered_alike : (es ds : List Carried) → map (λ (e : Carried). e.delivered) es ≡ map (λ (e : Carried). e.delivered) ds → Alike es ds
delivered_alike [] ds h = tt
delivered_alike (c ∷ es) [] h = tt
delivered_alike (c ∷ es) (d ∷ ds) h =
    let first : c.delivered ≡ d.delivered = cc in
    let others : map (λ (e : Carried). e.delivered) es ≡ map (λ (e : Carried). e.delivered) ds = cc in
    (λ parcel. first, delivered_alike es ds others)

-- the parcels of two runs, one by one
module _ (due : List Carried → Option Parcel → Type 0) (one : (entries : List Carried) (p q : Option Parcel) → due entries p → due entries q → p ≡ q) where
  no_more : (front : List Carried) (d : Carried) → due front None → due front (Some (parcel_of d)) → ⊥
  no_more front d none some = let e : None ≡ Some (parcel_of d) = one front None (Some (parcel_of d)) none some in absurd (cc)

  same_parcel : (front : List Carried) (c d : Carried) → due front (Some (parcel_of c)) → due front (Some (parcel_of d)) → parcel_of c ≡ parcel_of d
  same_parcel front c d h k = let e : Some (parcel_of c) ≡ Some (parcel_of d) = one front (Some (parcel_of c)) (Some (parcel_of d)) h k in cc

  same_parcels : (front es ds : List Carried) → AreDue due front es → AreDue due front ds → due (front ++ es) None → due (front ++ ds) None → Alike es ds → es ≡ ds
  same_parcels front [] [] h k none end alike = refl
  same_parcels front [] (d ∷ ds) h k none end alike = absurd (no_more front d (subst (λ f. due f None) (append-nil front) none) k.0)
  same_parcels front (c ∷ es) [] h k none end alike = absurd (no_more front c (subst (λ f. due f None) (append-nil front) end) h.0)
  same_parcels front (c ∷ es) (d ∷ ds) h k none end alike =
      let parcel = same_parcel front c d h.0 k.0 in
      let first : c ≡ d = same_entry c d parcel (alike.0 parcel) in
      let rest = same_parcels (front ++ c ∷ []) es ds h.1 (subst (λ (x : Carried). AreDue due (front ++ x ∷ []) ds) (sym first) k.1)
      (subst (λ f. due f None) (sym (append_assoc front (c ∷ []) es)) none)
      (subst (λ (x : Carried). due ((front ++ x ∷ []) ++ ds) None) (sym first) (subst (λ f. due f None) (sym (append_assoc front (d ∷ []) ds)) end)) alike.1 in
      ap (λ (x : Carried). x ∷ es) first ∙ ap (λ xs. d ∷ xs) rest

-- what a log gained
gained : (before now : Option (List Carried)) (was found entries : List Carried) → before ≡ Some was → now ≡ Some (was ++ found) → Adds before now entries → entries ≡ found
gained None now was found entries b n h = absurd (cc)
gained (Some told) now was found entries b n h =
    let same : told ≡ was = cc in
    let lists : told ++ entries ≡ was ++ found = let e : Some (told ++ entries) ≡ Some (was ++ found) = sym h ∙ n in cc in
    append_cancel_left was entries found (subst (λ t. t ++ entries ≡ was ++ found) same lists)

-- what was written
same_written : (m : Meaning) (one : IsOne m) (files : Files) (first second now later : Option Files) → first ≡ Some files → second ≡ Some files → WroteAll m.writes first now → WroteAll m.writes second later → now ≡ later
same_written m one files None second now later f s h k = absurd (cc)
same_written m one files (Some fs) None now later f s h k = absurd (cc)
same_written m one files (Some fs) (Some gs) now later f s (made, is, e) (more, also, d) =
    let here : fs ≡ files = cc in
    let there : gs ≡ files = cc in
    let lists = one.writes files made more (subst (λ x. m.writes x made) here is) (subst (λ x. m.writes x more) there also) in
    e ∙ ap (λ x. Some (written made x)) here ∙ ap (λ ws. Some (written ws files)) lists ∙ ap (λ x. Some (written more x)) (sym there) ∙ sym d

module _ (m : Meaning) (one : IsOne m) (files : Files) (a b : Run) (first : EndedOver m files a) (second : EndedOver m files b) where
  ends_over : (run : Run) → EndedOver m files run → EndsAsMeant m run.before run.now run.exit files
  ends_over run over = subst (λ kept. Tells kept (EndsAsMeant m run.before run.now run.exit)) over.over (over.ended.answer over.verdict)

  alike : (es ds : List Carried) → CarriedThese m files a.before a.now es → CarriedThese m files b.before b.now ds → DeliverAlike a b → Alike es ds
  alike es ds these those (inl faithful) = faithful_alike es ds (these.2 faithful.0) (those.2 faithful.1)
  alike es ds these those (inr told) =
      let mine : es ≡ told.first_gained = gained a.before.log a.now.log told.first told.first_gained es told.first_before told.first_now these.0 in
      let theirs : ds ≡ told.second_gained = gained b.before.log b.now.log told.second told.second_gained ds told.second_before told.second_now those.0 in
      let delivered = λ (xs : List Carried). map (λ (e : Carried). e.delivered) xs in
      delivered_alike es ds (ap delivered mine ∙ told.alike ∙ ap delivered (sym theirs))

  agree : EndsAsMeant m a.before a.now a.exit files → EndsAsMeant m b.before b.now b.exit files → DeliverAlike a b → Agree a b
  agree (es, these, none, answer, meant, exit, text) (ds, those, end, other, means_too, exit_too, text_too) delivered =
      let same : es ≡ ds = same_parcels (m.due files) (one.due files) [] es ds these.1 those.1 none end (alike es ds these those delivered) in
      let answers : answer ≡ other = one.answers files ds answer other (subst (λ xs. m.answers files xs answer) same meant) means_too in
      record {
        exit = exit ∙ ap (λ (x : Answer). exit_of x.verdict) answers ∙ sym exit_too;
        text = (answer.text, text, subst (λ (x : Answer). Adds b.before.told b.now.told x.text) (sym answers) text_too);
        files = same_written m one files a.before.kept b.before.kept a.now.kept b.now.kept first.over second.over (first.ended.wrote (inl first.verdict)) (second.ended.wrote (inl second.verdict));
        parcels = (es, these.0, subst (λ xs. Adds b.before.log b.now.log xs) (sym same) those.0);
      }

pub runs_agree : (meant : Meant) → MeansOne meant → RunsAgree meant
runs_agree unknown one = tt
runs_agree (means m) one = λ files a b first second delivered.
    agree m one files a b first second (ends_over m one files a b first second a first) (ends_over m one files a b first second b second) delivered
