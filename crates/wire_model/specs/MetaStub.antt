-- *MetaStub*: what is made of a request by a service that also answers for the version and the hash of its
-- interface (the compiler's generated `getInterfaceVersion` and `getInterfaceHash`; that the token and bytes left
-- over are looked at there is own). S is a schema's declarations, i the number of an interface, code and b the code
-- and the bytes of a request. All is read strictly.
use Rattle.std.specs.Prelude.{ℕ, ℤ, pos, ◌==◌, if◌then◌else◌, List, [], ◌∷◌, ◌++◌, Option, Some, None, Result, Ok}
use Rattle.aidl_base.specs.declared.profile.Profile.TheVariants.{Strict}
use Rattle.aidl_base.specs.Words.{word}
use Rattle.aidl_schema.specs.declared.schema.Decl.{Decl}
use Rattle.wire_model.specs.Calls.{descriptor}
use Rattle.wire_model.specs.MethodOf.{method_of}
use Rattle.wire_model.specs.ReadOf.{◌>>=◌}
use Rattle.wire_model.specs.Receiver.{Received, stub, token_at}
use Rattle.wire_model.specs.Requests.{reply, unread}
use Rattle.wire_model.specs.Spell.{spell_text}

-- the code of the version, 1 plus the id 16777214
abbrev pub version_code : ℕ
version_code = 16777215

-- the code of the hash, 1 plus the id 16777213
abbrev pub hash_code : ℕ
hash_code = 16777214

-- what a code asks for: the version as a word, or the hash as a String; nothing where it is neither code
abbrev pub told_of : ℕ → List ℕ → ℕ → Option (List ℕ)
told_of version hash code =
    if code == version_code then Some (word (pos version))
    else if code == hash_code then Some (spell_text hash) else None

-- the reply to one of the two codes, by the bytes after the token: the status 0 and what is told; where bytes are
-- left, that of `left`, which has the same bytes for every method that isn't oneway
abbrev pub own_reply : List Decl → ℕ → List ℕ → List ℕ → List ℕ
own_reply S i item [] = word (pos 0) ++ item
own_reply S i item (x ∷ rest) = reply (method_of S i 0) unread

-- what is received: the service's own reply is sent, and no handler is called; or what the stub receives
pub data MetaReceived : Type 0 where
  own : (sent : List ℕ) → MetaReceived
  inner : (received : Received) → MetaReceived

-- by what the code asks for
abbrev pub meta_by : List Decl → ℕ → ℕ → List ℕ → Option (List ℕ) → Result MetaReceived ℤ
meta_by S i code b (Some item) = do
  rest ← token_at Strict (descriptor S i) b  -- BAD_TYPE: the bytes don't begin with the token
  Ok (own (own_reply S i item rest))
meta_by S i code b None = do
  received ← stub Strict S i code b  -- every other code: *Stub*
  Ok (inner received)

-- *MetaStub*: what is received, or the transport status of the refusal that comes first
abbrev pub meta_stub : List Decl → ℕ → ℕ → List ℕ → ℕ → List ℕ → Result MetaReceived ℤ
meta_stub S i version hash code b = meta_by S i code b (told_of version hash code)
