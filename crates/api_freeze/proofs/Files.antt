-- Files that are the same, the latest version, and what is prepared.
use Rattle.std.proofs.Common.{◌≡◌, ◌≢◌, ℕ, ◌<◌, ◌≤◌, inl, inr, Bool, true, false, List, [], ◌∷◌, ◌++◌, length, map, Option, Some, None, Result, Ok, Err, refl, ap, sym, subst, ◌∙◌, arith}
use Rattle.std.specs.Str.{bytes_eq}
use Rattle.std.specs.Prelude.{option_to_list}
use Rattle.std.proofs.lemmas.Bool.{and_parts, and_from, and_right}
use Rattle.std.proofs.lemmas.Slice.Eq.{bytes_eq-Decides}
use Rattle.aidl_base.specs.declared.source_file.SourceFile.{SourceFile}
use Rattle.aidl_outside.specs.Faults.{StoreFaults}
use Rattle.aidl_outside.specs.Files.{Files}
use Rattle.aidl_outside.specs.Told.{Tells}
use Rattle.aidl_schema.specs.declared.schema.Decl.{Decl}
use Rattle.api_dump.specs.Dump.{File, dump_text, seen}
use Rattle.api_freeze.specs.declared.fault.FreezeFault.{FreezeFault}
use Rattle.api_freeze.specs.declared.fault.FreezeFault.TheVariants as fault
use Rattle.api_versions.specs.declared.fault.VersionsFault.{VersionsFault}
use Rattle.aidl_outside.specs.declared.store.StoreFault.{StoreFault}
use Rattle.api_versions.specs.declared.version.Version.{Version}
use Rattle.api_versions.specs.Answers.{Refuses}
use Rattle.api_versions.specs.Whole.{first_torn}
use Rattle.api_versions.specs.Writes.{LeftAt, Wrote}
use Rattle.api_freeze.specs.declared.following.Next.{Next}
use Rattle.api_freeze.specs.declared.freezing.Frozen.{Frozen}
use Rattle.api_freeze.specs.Chains.{FollowsEach}
use Rattle.api_freeze.specs.Freeze.{Forbids, Freezes, FreezesAt, IsDump, MayFollow, Ready, RefusedAs, hash_digits, latest, next, version_writes}
use Rattle.api_freeze.specs.steps.Following.{Follows, FollowsAll, Numbers, Prepares, are_same, is_same}

-- the version at the end is the latest
pub latest_last : (vs : List Version) (v : Version) → latest (vs ++ v ∷ []) ≡ Some v
latest_last [] v = refl
latest_last (w ∷ []) v = refl
latest_last (w ∷ x ∷ vs) v = latest_last (x ∷ vs) v

pub latest_popped : (all rest : List Version) (o : Option Version) → all ≡ rest ++ option_to_list o → (v : Version) → o ≡ Some v → latest all ≡ Some v
latest_popped all rest o e v is = ap latest (e ∙ ap (λ x. rest ++ option_to_list x) is) ∙ latest_last rest v

-- what is refused of versions that are whole
pub refused_whole : (vs : List Version) (S : List Decl) (e : FreezeFault) → first_torn vs ≡ None → Forbids (latest vs) S e → RefusedAs vs S e
refused_whole vs S (fault.Versions e) whole h = by_latest (latest vs) h where
  by_latest : (o : Option Version) → Forbids o S (fault.Versions e) → ⊥
  by_latest None h = absurd (cc)
  by_latest (Some v) h = h
refused_whole vs S (fault.Torn torn) whole h = absurd (by_latest (latest vs) h) where
  by_latest : (o : Option Version) → Forbids o S (fault.Torn torn) → ⊥
  by_latest None h = absurd (cc)
  by_latest (Some v) h = h
refused_whole vs S (fault.Unreadable version files cause) whole h = (whole, h)
refused_whole vs S (fault.Unchanged version) whole h = (whole, h)
refused_whole vs S (fault.Incompatible rows) whole h = (whole, h)
refused_whole vs S (fault.Limit l) whole h = (whole, inl h)
refused_whole vs S (fault.Write e) whole h = by_latest (latest vs) h where
  by_latest : (o : Option Version) → Forbids o S (fault.Write e) → ⊥
  by_latest None h = absurd (cc)
  by_latest (Some v) h = h
refused_whole vs S fault.OutOfMemory whole h = tt

-- a limit on the number or the dump, or what is prepared
pub prepared : (vs : List Version) (S : List Decl) (files : List SourceFile) (r : Result Next FreezeFault) → first_torn vs ≡ None → MayFollow (latest vs) S → FollowsEach vs S → IsDump S files → Numbers S (length vs) files r → Prepares vs S r
prepared vs S files (Ok n) whole follows each dump (few, number, same, back) =
    subst (λ fs. Ready vs S fs × (n.number ≡ next vs)) (sym same) (record { whole = whole; follows = follows; each = each; few = few; dump = dump; reads_back = back }, number)
prepared vs S files (Err (fault.Limit l)) whole follows each dump (inl h) = (whole, inr (follows, inl h))
prepared vs S files (Err (fault.Limit l)) whole follows each dump (inr h) = (whole, inr (follows, inr (h.0, (files, dump, h.1))))
prepared vs S files (Err fault.OutOfMemory) whole follows each dump h = tt
prepared vs S files (Err (fault.Versions e)) whole follows each dump h = absurd h
prepared vs S files (Err (fault.Torn torn)) whole follows each dump h = absurd h
prepared vs S files (Err (fault.Unreadable version fs cause)) whole follows each dump h = absurd h
prepared vs S files (Err (fault.Unchanged version)) whole follows each dump h = absurd h
prepared vs S files (Err (fault.Incompatible rows)) whole follows each dump h = absurd h
prepared vs S files (Err (fault.Write e)) whole follows each dump h = absurd h

-- nothing was written
pub freezes_refused : (api : List ℕ) (vs : List Version) (S : List Decl) (before now : Option Files) (faults : StoreFaults) (e : FreezeFault) → now ≡ before → RefusedAs vs S e → Freezes api vs S before now faults (Err e)
freezes_refused api vs S before now faults (fault.Versions e) same h = absurd h
freezes_refused api vs S before now faults (fault.Torn torn) same h = (same, h)
freezes_refused api vs S before now faults (fault.Unreadable version files cause) same h = (same, h)
freezes_refused api vs S before now faults (fault.Unchanged version) same h = (same, h)
freezes_refused api vs S before now faults (fault.Incompatible rows) same h = (same, h)
freezes_refused api vs S before now faults (fault.Limit l) same h = (same, h)
freezes_refused api vs S before now faults (fault.Write e) same h = absurd h
freezes_refused api vs S before now faults fault.OutOfMemory same h = same

-- what was prepared was written, or a front of it
pub freezes_stopped : (api : List ℕ) (vs : List Version) (S : List Decl) (before now : Option Files) (faults : StoreFaults) (n : ℕ) (files : List SourceFile) (e : StoreFault) → Ready vs S files → n ≡ next vs
    → LeftAt (version_writes api n files) before now faults e → Freezes api vs S before now faults (Err (fault.Write e))
freezes_stopped api vs S before now faults n files e ready number left = (files, ready, subst (λ m. LeftAt (version_writes api m files) before now faults e) number left)

pub freezes_done : (api : List ℕ) (vs : List Version) (S : List Decl) (before now : Option Files) (faults : StoreFaults) (n : ℕ) (files : List SourceFile) (x : Frozen) → Ready vs S files → n ≡ next vs → x.version ≡ n → x.hash ≡ hash_digits files n
    → Wrote (version_writes api n files) before now → Freezes api vs S before now faults (Ok x)
freezes_done api vs S before now faults n files x ready number version hash wrote =
    (files, ready, version ∙ number, hash ∙ ap (hash_digits files) number, subst (λ m. Wrote (version_writes api m files) before now) number wrote)

-- the same files have the same texts, and others don't
same_file : (f g : SourceFile) → is_same f g ≡ true → seen f ≡ seen g
same_file f g h =
    let both = and_parts (bytes_eq (seen f).0 (seen g).0) (bytes_eq f.bytes g.bytes) h in
    let path = (bytes_eq-Decides (seen f).0 (seen g).0).0 both.0 in
    let bytes = (bytes_eq-Decides f.bytes g.bytes).0 both.1 in
    let pair : List ℕ → List ℕ → File = λ p b. (p, b) in
    ap (λ p. pair p f.bytes) path ∙ ap (pair (seen g).0) bytes

pub same_texts : (fs gs : List SourceFile) → are_same fs gs ≡ true → map seen fs ≡ map seen gs
same_texts [] [] h = refl
same_texts [] (g ∷ gs) h = absurd (cc)
same_texts (f ∷ fs) [] h = absurd (cc)
same_texts (f ∷ fs) (g ∷ gs) h =
    let both = and_parts (is_same f g) (are_same fs gs) h in
    let first : seen f ≡ seen g = same_file f g both.0 in
    let rest : map seen fs ≡ map seen gs = same_texts fs gs both.1 in
    ap (λ x. x ∷ map seen fs) first ∙ ap (λ l. seen g ∷ l) rest

file_back : (f g : SourceFile) → seen f ≡ seen g → is_same f g ≡ true
file_back f g h =
    and_from (bytes_eq (seen f).0 (seen g).0) (bytes_eq f.bytes g.bytes)
    ((bytes_eq-Decides (seen f).0 (seen g).0).1 (ap (λ (x : File). x.0) h)) ((bytes_eq-Decides f.bytes g.bytes).1 (ap (λ (x : File). x.1) h))

pub texts_back : (fs gs : List SourceFile) → map seen fs ≡ map seen gs → are_same fs gs ≡ true
texts_back [] [] h = refl
texts_back [] (g ∷ gs) h = absurd (cc)
texts_back (f ∷ fs) [] h = absurd (cc)
texts_back (f ∷ fs) (g ∷ gs) h =
    let first : seen f ≡ seen g = cc in
    let rest : map seen fs ≡ map seen gs = cc in
    and_from (is_same f g) (are_same fs gs) (file_back f g first) (texts_back fs gs rest)

pub other_length : (fs gs : List SourceFile) → length fs ≢ length gs → false ≡ are_same fs gs
other_length [] [] ne = absurd (ne refl)
other_length [] (g ∷ gs) ne = refl
other_length (f ∷ fs) [] ne = refl
other_length (f ∷ fs) (g ∷ gs) ne = sym (and_right (is_same f g) (are_same fs gs) (sym (other_length fs gs (λ e. ne (omega arith)))))

pub same_dumps : (fs gs : List SourceFile) (O S : List Decl) (b : Bool) → map seen fs ≡ dump_text O → map seen gs ≡ dump_text S → b ≡ are_same fs gs → b ≡ true → dump_text O ≡ dump_text S
same_dumps fs gs O S b old new is h = sym old ∙ same_texts fs gs (sym is ∙ h) ∙ new

pub other_dumps : (fs gs : List SourceFile) (O S : List Decl) (b : Bool) → map seen fs ≡ dump_text O → map seen gs ≡ dump_text S → b ≡ are_same fs gs → b ≡ false → dump_text O ≢ dump_text S
other_dumps fs gs O S b old new is h = λ e. let x : true ≡ false = sym (texts_back fs gs (old ∙ e ∙ sym new)) ∙ sym is ∙ h in absurd (cc)

pub not_empty : {A : Type 0} (xs : List A) (n : ℕ) → n ≡ length xs → 0 < n → xs ≢ []
not_empty xs n e lt = λ is. let none : length xs ≡ 0 = ap length is in omega arith

pub no_rows : {A : Type 0} (xs : List A) (n : ℕ) → n ≡ length xs → n ≤ 0 → xs ≡ []
no_rows [] n e le = refl
no_rows (x ∷ xs) n e le = absurd (omega arith)

pub follows_latest : (vs : List Version) (v : Version) (S : List Decl) (r : Result (Unit {0}) FreezeFault) → latest vs ≡ Some v → Follows v S r → FollowsAll vs S r
follows_latest vs v S (Ok x) e h = subst (λ o. MayFollow o S) (sym e) h
follows_latest vs v S (Err f) e h = subst (λ o. Forbids o S f) (sym e) h

-- of what is told
pub freezes_at : (api : List ℕ) (kept : Option Files) (defined : Files → Result (List Version) VersionsFault) (vs : List Version) (S : List Decl) (before now : Option Files) (faults : StoreFaults) (r : Result Frozen FreezeFault)
    → before ≡ kept → Tells kept (λ files. defined files ≡ Ok vs) → Freezes api vs S before now faults r → Tells kept (λ files. FreezesAt api (defined files) S (Some files) now faults r)
freezes_at api None defined vs S before now faults r same told h = tt
freezes_at api (Some files) defined vs S before now faults r same told h =
    subst (λ d. FreezesAt api d S (Some files) now faults r) (sym told) (subst (λ b. Freezes api vs S b now faults r) same h)

unread_by : (api : List ℕ) (S : List Decl) (before now : Option Files) (faults : StoreFaults) (d : Result (List Version) VersionsFault) (e : VersionsFault) → now ≡ before → Refuses d e
    → FreezesAt api d S before now faults (Err (fault.Versions e))
unread_by api S before now faults (Ok vs) e same h = (same, h)
unread_by api S before now faults (Err r) e same h = (same, h)

pub unread_at : (api : List ℕ) (kept : Option Files) (defined : Files → Result (List Version) VersionsFault) (S : List Decl) (now : Option Files) (faults : StoreFaults) (e : VersionsFault) → now ≡ kept
    → Tells kept (λ files. Refuses (defined files) e) → Tells kept (λ files. FreezesAt api (defined files) S (Some files) now faults (Err (fault.Versions e)))
unread_at api None defined S now faults e same told = tt
unread_at api (Some files) defined S now faults e same told = unread_by api S (Some files) now faults (defined files) e same told
