-- What a command writes and answers is one thing at the most.
use Rattle.std.proofs.Common.{◌≡◌, ℕ, List, Ok, Err, sym, ◌∙◌}
use Rattle.std.specs.Prelude.{Result}
use Rattle.aidl_outside.specs.Files.{Files}
use Rattle.aidl_outside.specs.Writes.{Write}
use Rattle.aidl_schema.specs.declared.schema.Decl.{Decl}
use Rattle.version_commands.specs.Acting.{BySchema, DumpActs, FreezeActs, RehashActs}
use Rattle.aidl_tool.specs.OneMeaning.{IsOneAct}
use Rattle.api_freeze.specs.Rehash.{rehash_at, rehash_writes}
use Rattle.api_versions.specs.Versions.{versions_at}
use Rattle.api_freeze.specs.declared.fault.RehashFault.{RehashFault}
use Rattle.api_freeze.specs.declared.fault.RehashFault.TheVariants as fault
use Rattle.tool_frame.specs.Acts.{Acts, Only, Unwritten}
use Rattle.tool_frame.specs.Answer.{Answer}
use Rattle.tool_frame.specs.Trees.{tree_at}
use Rattle.tree_commands.proofs.lemmas.OneByTree.{by_tree}
use Rattle.aidl_tool.proofs.ones.Unread.{one_unread}
use Rattle.aidl_tool.proofs.ones.Freezing.{freezes_one}
use Rattle.version_commands.specs.Dumped.{Dumps}
use Rattle.version_commands.specs.Frozen.{Freezes}
use Rattle.version_commands.specs.Rehashed.{IsUnhashed, Rehashes}

-- two acts are the same
abbrev SameActs : List Write → List Write → Answer → Answer → Type 0
SameActs v w a b = (v ≡ w) × (a ≡ b)

-- acts of which there is one at the most
abbrev IsOneOf : Acts → Type 0
IsOneOf acts = (v w : List Write) (a b : Answer) → acts v a → acts w b → SameActs v w a b

only_one : (Is : Answer → Type 0) → ((a b : Answer) → Is a → Is b → a ≡ b) → IsOneOf (Only Is)
only_one Is one v w a b h k = (h.0 ∙ sym k.0, one a b h.1 k.1)

unwritten_one : (v w : List Write) (r : Answer) (a b : Answer) → Unwritten v r a → Unwritten w r b → SameActs v w a b
unwritten_one v w r a b h k = (h.0 ∙ sym k.0, h.1 ∙ sym k.1)

-- by the schema of a tree
by_schema : (next : List Decl → Acts) → ((S : List Decl) → IsOneOf (next S)) → (root : List ℕ) (files : Files) → IsOneOf (BySchema root (tree_at files root) next)
by_schema next one root files v w =
    by_tree (SameActs v w) (Unwritten v) (Unwritten w) (unwritten_one v w) (λ S. next S v) (λ S. next S w) (λ S. one S v w) root (tree_at files root)

pub one_dump : (tree out : List ℕ) → IsOneAct (DumpActs tree out)
one_dump tree out files = by_schema (Dumps out) (λ S v w a b h k. (h.0 ∙ sym k.0, h.1 ∙ sym k.1)) tree files

one_unhashed : (e : RehashFault) (a b : Answer) → IsUnhashed e a → IsUnhashed e b → a ≡ b
one_unhashed (fault.Versions e) a b h k = one_unread e a b h k
one_unhashed (fault.Torn torn) a b h k = h ∙ sym k
one_unhashed (fault.Write e) a b h k = absurd h
one_unhashed fault.OutOfMemory a b h k = absurd h

rehashes_one : (writes : List Write) (numbers : Result (List ℕ) RehashFault) → IsOneOf (Rehashes writes numbers)
rehashes_one writes (Ok numbers) v w a b h k = (h.0 ∙ sym k.0, h.1 ∙ sym k.1)
rehashes_one writes (Err e) v w a b h k = only_one (IsUnhashed e) (one_unhashed e) v w a b h k

pub one_rehash : (api : List ℕ) → IsOneAct (RehashActs api)
one_rehash api files = rehashes_one (rehash_writes files api) (rehash_at files api)

pub one_freeze : (tree api : List ℕ) → IsOneAct (FreezeActs tree api)
one_freeze tree api files = by_schema (Freezes api (versions_at files api)) (λ S. freezes_one api (versions_at files api) S) tree files
