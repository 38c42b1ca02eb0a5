-- The laws of declarations.
use Rattle.std.proofs.Common.{◌⊎◌, inl, inr, ◌≡◌, ℕ, zero, suc, ◌+◌, ◌<◌, ◌≤◌, Bool, true, false, List, [], ◌∷◌, ◌++◌, length, refl, sym, ap, subst, ◌∙◌, append_assoc, length-append, arith}
use Rattle.aidl_base.specs.declared.reserved.Reserved.TheVariants as word
use Rattle.aidl_syntax.specs.declared.token.Symbol.TheVariants as mark
use Rattle.aidl_syntax.specs.declared.token.TokenKind.TheVariants as kind
use Rattle.aidl_syntax.specs.declared.token.Token.{Token as Tok}
use Rattle.aidl_syntax.specs.declared.tree.NameTree.{NameTree}
use Rattle.aidl_syntax.specs.Parts.{Form, Then, Single, Quoted, Before, first}
use Rattle.parse_places.specs.declared.terminal.Terminal.{Terminal}
use Rattle.parse_places.specs.declared.terminal.Terminal.TheVariants as terminal
use Rattle.parse_places.specs.declared.expected.Part.{Part}
use Rattle.parse_places.specs.declared.expected.Part.TheVariants as part
use Rattle.parse_places.specs.declared.expected.Expected.{Expected}
use Rattle.parse_places.specs.declared.expected.Expected.TheVariants as expected
use Rattle.parse_places.specs.declared.expected.Expected.TheVariants.{Token, Once}
use Rattle.parse_places.specs.steps.Terminals.{terminal_of}
use Rattle.parse_places.specs.steps.Rows.{row}
use Rattle.parse_places.specs.steps.Moves.{moves, skips}
use Rattle.parse_places.proofs.Tokens.{kind_of, is_one, one_kind}
use Rattle.parse_places.proofs.runs.Runs.{After, Run, run_append, run_split}
use Rattle.aidl_syntax.specs.Parts.{Worded, Trailing}
use Rattle.aidl_syntax.specs.Trees.{Field, Constant, Enumerator, Method, Decl, Body, Members}
use Rattle.aidl_syntax.specs.Trees.Decl.{decl}
use Rattle.aidl_syntax.specs.Trees.Body.{parcelable, union, enum, interface}
use Rattle.aidl_syntax.specs.Trees.Members.{none, field, constant, method, nested}
use Rattle.aidl_syntax.specs.Productions.{IsIdent, IsField, IsConstant, IsEnumerator, IsOneway, IsMethod, Opens, IsDecl, IsBody, AreMembers, AreInterfaceMembers}
use Rattle.parse_places.proofs.productions.Laws.{Law, both_law, token_run, run_token, run_once, once_run, single_law, before_law, enter, nil_run}
use Rattle.parse_places.proofs.productions.Lists.{IsThen, ElementThen, run_then, then_run, element_once, trailing_law}
use Rattle.parse_places.proofs.productions.TypeLaws.{ident_law}
use Rattle.parse_places.proofs.productions.AnnotationLaws.{annots_law}
use Rattle.parse_places.proofs.productions.MemberLaws.{field_stack, field_law, constant_stack, constant_law, enumerator_law, member_annotated, interface_member_annotated, rest_run, run_rest}
use Rattle.parse_places.proofs.productions.MethodLaws.{Methods, method_reads, method_gives}

-- Heads and braces.

head_law : (n : ℕ) (c : Terminal) → is_one c ≡ true → Law n (Token c ∷ Token terminal.Name ∷ Token terminal.OpenBrace ∷ []) (Then (Single (kind_of c)) (Opens IsIdent))
unfolding kind_of is_one
head_law n c one =
    both_law n (Token c ∷ []) (Token terminal.Name ∷ Token terminal.OpenBrace ∷ []) (Single (kind_of c)) (Opens IsIdent) (single_law n c one)
    (before_law n terminal.OpenBrace (Token terminal.Name ∷ []) IsIdent refl (ident_law n))

close_law : (n : ℕ) → Law n (Token terminal.CloseBrace ∷ []) (Quoted mark.CloseBrace)
unfolding kind_of is_one
close_law n = single_law n terminal.CloseBrace refl

abbrev braced : Part → List Expected
braced x = Token terminal.Name ∷ Token terminal.OpenBrace ∷ expected.Many x ∷ Token terminal.CloseBrace ∷ []

abbrev Braced : List Tok → List Expected → Part → Type 0
Braced ts head x = (front inner tail : List Tok) × (ts ≡ front ++ inner ++ tail) × Run front head × Run inner (expected.Many x ∷ []) × Run tail (Token terminal.CloseBrace ∷ [])

run_braced : (ts : List Tok) (head : List Expected) (x : Part) → Run ts (head ++ expected.Many x ∷ Token terminal.CloseBrace ∷ []) → Braced ts head x
run_braced ts head x r =
    let p = run_split ts head (expected.Many x ∷ Token terminal.CloseBrace ∷ []) r in
    let q = run_split p.1 (expected.Many x ∷ []) (Token terminal.CloseBrace ∷ []) p.4 in
    (p.0, q.0, q.1, p.2 ∙ ap (λ us. p.0 ++ us) q.2 ∙ sym (append_assoc p.0 q.0 q.1), p.3, q.3, q.4)

braced_run : (ts front inner tail : List Tok) (head : List Expected) (x : Part) → ts ≡ front ++ inner ++ tail → Run front head → Run inner (expected.Many x ∷ []) → Run tail (Token terminal.CloseBrace ∷ [])
    → Run ts (head ++ expected.Many x ∷ Token terminal.CloseBrace ∷ [])
braced_run ts front inner tail head x is r q c =
    subst (λ us. Run us (head ++ expected.Many x ∷ Token terminal.CloseBrace ∷ [])) (sym (is ∙ append_assoc front inner tail))
    (run_append front (inner ++ tail) head (expected.Many x ∷ Token terminal.CloseBrace ∷ []) r (run_append inner tail (expected.Many x ∷ []) (Token terminal.CloseBrace ∷ []) q c))

-- Heads of interfaces.

abbrev interface_head : List Expected
interface_head = Token terminal.Interface ∷ Token terminal.Name ∷ Token terminal.OpenBrace ∷ []

abbrev InterfaceHead : Form (Bool × (Unit {0} × NameTree))
InterfaceHead = Then IsOneway (Then (Worded word.Interface) (Opens IsIdent))

plain_head : (n : ℕ) → Law n interface_head (Then (Worded word.Interface) (Opens IsIdent))
unfolding kind_of is_one
plain_head n = head_law n terminal.Interface refl

oneway_head : (n : ℕ) → Law n (Token terminal.Oneway ∷ interface_head) (Then (Worded word.Oneway) (Then (Worded word.Interface) (Opens IsIdent)))
unfolding kind_of is_one
oneway_head n = both_law n (Token terminal.Oneway ∷ []) interface_head (Worded word.Oneway) (Then (Worded word.Interface) (Opens IsIdent)) (single_law n terminal.Oneway refl) (plain_head n)

-- Enums.

abbrev enum_stack : List Expected
enum_stack = Token terminal.Enum ∷ Token terminal.Name ∷ Token terminal.OpenBrace ∷ Once part.Enumerator ∷ expected.CommasTrailing part.Enumerator ∷ Token terminal.CloseBrace ∷ []

enum_law : (n : ℕ) → Law n enum_stack (Then (Then (Worded word.Enum) (Opens IsIdent)) (Before (Trailing IsEnumerator) mark.CloseBrace))
unfolding kind_of is_one
enum_law n =
    both_law n (Token terminal.Enum ∷ Token terminal.Name ∷ Token terminal.OpenBrace ∷ []) (Once part.Enumerator ∷ expected.CommasTrailing part.Enumerator ∷ Token terminal.CloseBrace ∷ [])
    (Then (Worded word.Enum) (Opens IsIdent)) (Before (Trailing IsEnumerator) mark.CloseBrace) (head_law n terminal.Enum refl)
    (before_law n terminal.CloseBrace (Once part.Enumerator ∷ expected.CommasTrailing part.Enumerator ∷ []) (Trailing IsEnumerator) refl (trailing_law n part.Enumerator IsEnumerator (enumerator_law n)))

-- What the stack of a member runs over.

abbrev MemberParts : List Tok → Type 0
MemberParts ts = Run ts field_stack ⊎ (Run ts constant_stack ⊎ Run ts (Once part.Body ∷ []))

member_parts : (ts : List Tok) → Run ts (Once part.MemberRest ∷ []) → MemberParts ts
unfolding row
member_parts ts r = let p = run_once ts part.MemberRest r in subst MemberParts (sym p.2) (go p.0 p.1 (terminal_of p.0.kind) refl p.3) where
  go : (t : Tok) (us : List Tok) (d : Terminal) → terminal_of t.kind ≡ d → After (Run us) (row part.MemberRest d) → MemberParts (t ∷ us)
  go t us terminal.Name e h = inl (token_run t us terminal.Name (expected.Many part.DotName ∷ expected.Maybe part.Element ∷ expected.Maybe part.Array ∷ Token terminal.Name ∷ expected.Maybe part.Initial ∷ Token terminal.Semicolon ∷ []) e h)
  go t us terminal.Const e h = inr (inl (token_run t us terminal.Const (Once part.Type ∷ Token terminal.Name ∷ Token terminal.Equal ∷ Once part.Expression ∷ Token terminal.Semicolon ∷ []) e h))
  go t us _ e h = inr (inr (once_run t us part.Body (subst (λ z. After (Run us) (row part.Body z)) (sym e) h)))

field_member : (ts : List Tok) → Run ts field_stack → Run ts (Once part.MemberRest ∷ [])
unfolding row
field_member ts r = enter ts part.MemberRest terminal.Name (expected.Many part.DotName ∷ expected.Maybe part.Element ∷ expected.Maybe part.Array ∷ Token terminal.Name ∷ expected.Maybe part.Initial ∷ Token terminal.Semicolon ∷ []) refl r

constant_member : (ts : List Tok) → Run ts constant_stack → Run ts (Once part.MemberRest ∷ [])
unfolding row
constant_member ts r = enter ts part.MemberRest terminal.Const (Once part.Type ∷ Token terminal.Name ∷ Token terminal.Equal ∷ Once part.Expression ∷ Token terminal.Semicolon ∷ []) refl r

body_row : (P : List Expected → Type 0) (d : Terminal) → After P (row part.Body d) → After P (row part.MemberRest d)
unfolding row
body_row P terminal.Name h = absurd h
body_row P terminal.Const h = absurd h
body_row P _ h = h

body_member : (ts : List Tok) → Run ts (Once part.Body ∷ []) → Run ts (Once part.MemberRest ∷ [])
body_member ts r =
    let p = run_once ts part.Body r in
    subst (λ us. Run us (Once part.MemberRest ∷ [])) (sym p.2) (once_run p.0 p.1 part.MemberRest (body_row (Run p.1) (terminal_of p.0.kind) p.3))

-- What the stack of a member of an interface runs over.

abbrev oneway_body : List Expected
oneway_body = Token terminal.Interface ∷ Token terminal.Name ∷ Token terminal.OpenBrace ∷ expected.Many part.InterfaceMember ∷ Token terminal.CloseBrace ∷ []

abbrev behind_void : List Expected
behind_void = Token terminal.Name ∷ Token terminal.OpenParen ∷ expected.MaybeListed part.Argument ∷ Token terminal.CloseParen ∷ expected.Maybe part.Id ∷ Token terminal.Semicolon ∷ []

abbrev behind_type : List Expected
behind_type = expected.Many part.DotName ∷ expected.Maybe part.Element ∷ expected.Maybe part.Array ∷ behind_void

abbrev InterfaceMemberParts : List Tok → Type 0
InterfaceMemberParts ts = Methods ts ⊎ (Run ts constant_stack ⊎ Run ts (Once part.Body ∷ []))

oneway_kind : (t : Tok) → terminal_of t.kind ≡ terminal.Oneway → t.kind ≡ kind.Word word.Oneway
unfolding kind_of is_one
oneway_kind t k = one_kind t.kind terminal.Oneway k refl

oneway_parts : (t : Tok) (us : List Tok) → terminal_of t.kind ≡ terminal.Oneway → Run us (Once part.OnewayRest ∷ []) → InterfaceMemberParts (t ∷ us)
unfolding row
oneway_parts t us k r = let p = run_once us part.OnewayRest r in
    subst (λ vs. InterfaceMemberParts (t ∷ vs)) (sym p.2) (go p.0 p.1 (terminal_of p.0.kind) refl p.3) where
      go : (u : Tok) (vs : List Tok) (d : Terminal) → terminal_of u.kind ≡ d → After (Run vs) (row part.OnewayRest d) → InterfaceMemberParts (t ∷ u ∷ vs)
      go u vs terminal.Interface e h =
          inr (inr (enter (t ∷ u ∷ vs) part.Body terminal.Oneway oneway_body refl (token_run t (u ∷ vs) terminal.Oneway oneway_body k (token_run u vs terminal.Interface (braced part.InterfaceMember) e h))))
      go u vs terminal.Void e h = inl (inr (t, u ∷ vs, refl, oneway_kind t k, inl (token_run u vs terminal.Void behind_void e h)))
      go u vs terminal.Name e h = inl (inr (t, u ∷ vs, refl, oneway_kind t k, inr (token_run u vs terminal.Name behind_type e h)))
      go u vs _ e h = absurd h

interface_member_parts : (ts : List Tok) → Run ts (Once part.InterfaceMemberRest ∷ []) → InterfaceMemberParts ts
unfolding row
interface_member_parts ts r = let p = run_once ts part.InterfaceMemberRest r in subst InterfaceMemberParts (sym p.2) (go p.0 p.1 (terminal_of p.0.kind) refl p.3) where
  go : (t : Tok) (us : List Tok) (d : Terminal) → terminal_of t.kind ≡ d → After (Run us) (row part.InterfaceMemberRest d) → InterfaceMemberParts (t ∷ us)
  go t us terminal.Oneway e h = oneway_parts t us e h
  go t us terminal.Const e h = inr (inl (token_run t us terminal.Const (Once part.Type ∷ Token terminal.Name ∷ Token terminal.Equal ∷ Once part.Expression ∷ Token terminal.Semicolon ∷ []) e h))
  go t us terminal.Void e h = inl (inl (inl (token_run t us terminal.Void behind_void e h)))
  go t us terminal.Name e h = inl (inl (inr (token_run t us terminal.Name behind_type e h)))
  go t us _ e h = inr (inr (once_run t us part.Body (subst (λ z. After (Run us) (row part.Body z)) (sym e) h)))

method_member : (ts : List Tok) → Methods ts → Run ts (Once part.InterfaceMemberRest ∷ [])
unfolding row
method_member ts (inl (inl r)) = enter ts part.InterfaceMemberRest terminal.Void behind_void refl r
method_member ts (inl (inr r)) = enter ts part.InterfaceMemberRest terminal.Name behind_type refl r
method_member ts (inr (t, us, is, k, inl r)) =
    enter ts part.InterfaceMemberRest terminal.Oneway (Once part.OnewayRest ∷ []) refl
    (subst (λ vs. Run vs (Token terminal.Oneway ∷ Once part.OnewayRest ∷ [])) (sym is)
    (token_run t us terminal.Oneway (Once part.OnewayRest ∷ []) (ap terminal_of k) (enter us part.OnewayRest terminal.Void behind_void refl r)))
method_member ts (inr (t, us, is, k, inr r)) =
    enter ts part.InterfaceMemberRest terminal.Oneway (Once part.OnewayRest ∷ []) refl
    (subst (λ vs. Run vs (Token terminal.Oneway ∷ Once part.OnewayRest ∷ [])) (sym is)
    (token_run t us terminal.Oneway (Once part.OnewayRest ∷ []) (ap terminal_of k) (enter us part.OnewayRest terminal.Name behind_type refl r)))

constant_interface_member : (ts : List Tok) → Run ts constant_stack → Run ts (Once part.InterfaceMemberRest ∷ [])
unfolding row
constant_interface_member ts r = enter ts part.InterfaceMemberRest terminal.Const (Once part.Type ∷ Token terminal.Name ∷ Token terminal.Equal ∷ Once part.Expression ∷ Token terminal.Semicolon ∷ []) refl r

-- of a body: but for "oneway", what is expected is the same
interface_body_row : (us : List Tok) (d : Terminal) → After (Run us) (row part.Body d) → After (Run us) (row part.InterfaceMemberRest d)
unfolding row
interface_body_row us terminal.Oneway h = enter us part.OnewayRest terminal.Interface (braced part.InterfaceMember) refl h
interface_body_row us terminal.Const h = absurd h
interface_body_row us terminal.Void h = absurd h
interface_body_row us terminal.Name h = absurd h
interface_body_row us _ h = h

body_interface_member : (ts : List Tok) → Run ts (Once part.Body ∷ []) → Run ts (Once part.InterfaceMemberRest ∷ [])
body_interface_member ts r =
    let p = run_once ts part.Body r in
    subst (λ us. Run us (Once part.InterfaceMemberRest ∷ [])) (sym p.2) (once_run p.0 p.1 part.InterfaceMemberRest (interface_body_row p.1 (terminal_of p.0.kind) p.3))

-- The stack runs over every declaration.

many_then : (x : Part) → IsThen (expected.Many x) (row x) (expected.Many x)
unfolding moves
many_then x d = refl

more_members : (x : Part) (ts front back : List Tok) → ts ≡ front ++ back → Run front (Once x ∷ []) → Run back (expected.Many x ∷ []) → Run ts (expected.Many x ∷ [])
more_members x ts front back is r q =
    subst (λ us. Run us (expected.Many x ∷ [])) (sym is) (then_run front back (expected.Many x) (row x) (expected.Many x) (many_then x) (run_once front x r) q)

abbrev pub declared : List Expected
declared = expected.Many part.Annotation ∷ Once part.Body ∷ []

-- annotations in front of what is behind them in a member
field_read : (ts : List Tok) (f : Field) → IsField ts f → Run ts (Once part.Member ∷ [])
field_read ts f h =
    let p = run_split ts (expected.Many part.Annotation ∷ []) field_stack ((field_law 0).reads ts f h) in
    subst (λ us. Run us (Once part.Member ∷ [])) (sym p.2) (rest_run part.Member part.MemberRest member_annotated p.0 p.1 p.3 (field_member p.1 p.4))

constant_read : (ts : List Tok) (c : Constant) → IsConstant ts c → Run ts (Once part.Member ∷ [])
constant_read ts c h =
    let p = run_split ts (expected.Many part.Annotation ∷ []) constant_stack ((constant_law 0).reads ts c h) in
    subst (λ us. Run us (Once part.Member ∷ [])) (sym p.2) (rest_run part.Member part.MemberRest member_annotated p.0 p.1 p.3 (constant_member p.1 p.4))

nested_read : (ts : List Tok) → Run ts declared → Run ts (Once part.Member ∷ [])
nested_read ts r =
    let p = run_split ts (expected.Many part.Annotation ∷ []) (Once part.Body ∷ []) r in
    subst (λ us. Run us (Once part.Member ∷ [])) (sym p.2) (rest_run part.Member part.MemberRest member_annotated p.0 p.1 p.3 (body_member p.1 p.4))

interface_constant_read : (ts : List Tok) (c : Constant) → IsConstant ts c → Run ts (Once part.InterfaceMember ∷ [])
interface_constant_read ts c h =
    let p = run_split ts (expected.Many part.Annotation ∷ []) constant_stack ((constant_law 0).reads ts c h) in
    subst (λ us. Run us (Once part.InterfaceMember ∷ [])) (sym p.2) (rest_run part.InterfaceMember part.InterfaceMemberRest interface_member_annotated p.0 p.1 p.3 (constant_interface_member p.1 p.4))

method_read : (ts : List Tok) (m : Method) → IsMethod ts m → Run ts (Once part.InterfaceMember ∷ [])
method_read ts m h =
    let p = method_reads ts m h in
    subst (λ us. Run us (Once part.InterfaceMember ∷ [])) (sym p.2) (rest_run part.InterfaceMember part.InterfaceMemberRest interface_member_annotated p.0 p.1 p.3 (method_member p.1 p.4))

interface_nested_read : (ts : List Tok) → Run ts declared → Run ts (Once part.InterfaceMember ∷ [])
interface_nested_read ts r =
    let p = run_split ts (expected.Many part.Annotation ∷ []) (Once part.Body ∷ []) r in
    subst (λ us. Run us (Once part.InterfaceMember ∷ [])) (sym p.2) (rest_run part.InterfaceMember part.InterfaceMemberRest interface_member_annotated p.0 p.1 p.3 (body_interface_member p.1 p.4))

parcelable_read : (ts head inner tail : List Tok) (n : NameTree) → ts ≡ head ++ inner ++ tail → Then (Worded word.Parcelable) (Opens IsIdent) head (tt, n) → Run inner (expected.Many part.Member ∷ []) → Quoted mark.CloseBrace tail tt → Run ts (Once part.Body ∷ [])
unfolding row kind_of is_one
parcelable_read ts head inner tail n is h r c =
    enter ts part.Body terminal.Parcelable (braced part.Member) refl
    (braced_run ts head inner tail (Token terminal.Parcelable ∷ Token terminal.Name ∷ Token terminal.OpenBrace ∷ []) part.Member is ((head_law 0 terminal.Parcelable refl).reads head (tt, n) h) r ((close_law 0).reads tail tt c))

union_read : (ts head inner tail : List Tok) (n : NameTree) → ts ≡ head ++ inner ++ tail → Then (Worded word.Union) (Opens IsIdent) head (tt, n) → Run inner (expected.Many part.Member ∷ []) → Quoted mark.CloseBrace tail tt → Run ts (Once part.Body ∷ [])
unfolding row kind_of is_one
union_read ts head inner tail n is h r c =
    enter ts part.Body terminal.Union (braced part.Member) refl
    (braced_run ts head inner tail (Token terminal.Union ∷ Token terminal.Name ∷ Token terminal.OpenBrace ∷ []) part.Member is ((head_law 0 terminal.Union refl).reads head (tt, n) h) r ((close_law 0).reads tail tt c))

enum_read : (ts : List Tok) (n : NameTree) (es : List Enumerator) → Then (Then (Worded word.Enum) (Opens IsIdent)) (Before (Trailing IsEnumerator) mark.CloseBrace) ts ((tt, n), es) → Run ts (Once part.Body ∷ [])
unfolding row
enum_read ts n es h =
    enter ts part.Body terminal.Enum (Token terminal.Name ∷ Token terminal.OpenBrace ∷ Once part.Enumerator ∷ expected.CommasTrailing part.Enumerator ∷ Token terminal.CloseBrace ∷ []) refl ((enum_law 0).reads ts ((tt, n), es) h)

interface_read : (ts head inner tail : List Tok) (n : NameTree) (o : Bool) → ts ≡ head ++ inner ++ tail → InterfaceHead head (o, (tt, n)) → Run inner (expected.Many part.InterfaceMember ∷ []) → Quoted mark.CloseBrace tail tt → Run ts (Once part.Body ∷ [])
unfolding row
interface_read ts head inner tail n false is (front, back, js, e, h) r c =
    let k : head ≡ back = js ∙ ap (λ us. us ++ back) e in
    enter ts part.Body terminal.Interface (braced part.InterfaceMember) refl
    (braced_run ts head inner tail interface_head part.InterfaceMember is (subst (λ us. Run us interface_head) (sym k) ((plain_head 0).reads back (tt, n) h)) r ((close_law 0).reads tail tt c))
interface_read ts head inner tail n true is h r c =
    enter ts part.Body terminal.Oneway oneway_body refl
    (braced_run ts head inner tail (Token terminal.Oneway ∷ interface_head) part.InterfaceMember is ((oneway_head 0).reads head (tt, (tt, n)) h) r ((close_law 0).reads tail tt c))

mutual
  unfolding skips

  decl_read : (d : Decl) (ts : List Tok) → IsDecl ts d → Run ts declared
  decl_read (decl o annots n b) ts (front, back, is, h, g, k) =
      subst (λ us. Run us declared) (sym is) (run_append front back (expected.Many part.Annotation ∷ []) (Once part.Body ∷ []) ((annots_law 0).reads front annots h) (body_read b back n g))

  body_read : (b : Body) (ts : List Tok) (n : NameTree) → IsBody ts n b → Run ts (Once part.Body ∷ [])
  body_read (parcelable ms) ts n (head, inner, tail, is, h, g, c) = parcelable_read ts head inner tail n is h (members_read ms inner g) c
  body_read (union ms) ts n (head, inner, tail, is, h, g, c) = union_read ts head inner tail n is h (members_read ms inner g) c
  body_read (enum es) ts n h = enum_read ts n es h
  body_read (interface o ms) ts n (head, inner, tail, is, h, g, c) = interface_read ts head inner tail n o is h (interface_members_read ms inner g) c

  members_read : (ms : Members) (ts : List Tok) → AreMembers ts ms → Run ts (expected.Many part.Member ∷ [])
  members_read none ts is = nil_run ts (expected.Many part.Member) refl is
  members_read (field f ms) ts (front, back, is, h, g) = more_members part.Member ts front back is (field_read front f h) (members_read ms back g)
  members_read (constant c ms) ts (front, back, is, h, g) = more_members part.Member ts front back is (constant_read front c h) (members_read ms back g)
  members_read (method m ms) ts h = absurd h
  members_read (nested d ms) ts (front, back, is, h, g) = more_members part.Member ts front back is (nested_read front (decl_read d front h)) (members_read ms back g)

  interface_members_read : (ms : Members) (ts : List Tok) → AreInterfaceMembers ts ms → Run ts (expected.Many part.InterfaceMember ∷ [])
  interface_members_read none ts is = nil_run ts (expected.Many part.InterfaceMember) refl is
  interface_members_read (field f ms) ts h = absurd h
  interface_members_read (constant c ms) ts (front, back, is, h, g) = more_members part.InterfaceMember ts front back is (interface_constant_read front c h) (interface_members_read ms back g)
  interface_members_read (method m ms) ts (front, back, is, h, g) = more_members part.InterfaceMember ts front back is (method_read front m h) (interface_members_read ms back g)
  interface_members_read (nested d ms) ts (front, back, is, h, g) = more_members part.InterfaceMember ts front back is (interface_nested_read front (decl_read d front h)) (interface_members_read ms back g)

-- What the stack of a declaration runs over is one.

abbrev MembersOf : List Tok → Type 0
MembersOf ts = (ms : Members) × AreMembers ts ms

abbrev InterfaceMembersOf : List Tok → Type 0
InterfaceMembersOf ts = (ms : Members) × AreInterfaceMembers ts ms

abbrev BodyOf : List Tok → Type 0
BodyOf ts = (n : NameTree) × (b : Body) × IsBody ts n b

abbrev DeclOf : List Tok → Type 0
DeclOf ts = (d : Decl) × IsDecl ts d

abbrev MembersBelow : ℕ → Type 0
MembersBelow n = (ts : List Tok) → length ts < n → Run ts (expected.Many part.Member ∷ []) → MembersOf ts

abbrev InterfaceMembersBelow : ℕ → Type 0
InterfaceMembersBelow n = (ts : List Tok) → length ts < n → Run ts (expected.Many part.InterfaceMember ∷ []) → InterfaceMembersOf ts

abbrev BodiesTo : ℕ → Type 0
BodiesTo n = (ts : List Tok) → length ts ≤ n → Run ts (Once part.Body ∷ []) → BodyOf ts

first_token : (ts : List Tok) (c : Terminal) (s : List Expected) → Run ts (Token c ∷ s) → 0 < length ts
first_token ts c s r = let p = run_token ts c s r in let l : length ts ≡ suc (length p.1) = ap length p.2 in omega arith

inner_less : (ts front inner tail : List Tok) → ts ≡ front ++ inner ++ tail → 0 < length front → length inner < length ts
inner_less ts front inner tail is pos =
    let a : length ts ≡ length (front ++ inner) + length tail = ap length is ∙ length-append (front ++ inner) tail in
    let b : length (front ++ inner) ≡ length front + length inner = length-append front inner in omega arith

parcelable_of : (n : ℕ) → MembersBelow n → (ts : List Tok) → length ts ≤ n → Run ts (Token terminal.Parcelable ∷ braced part.Member) → BodyOf ts
unfolding kind_of is_one
parcelable_of n ms ts le r =
    let p = run_braced ts (Token terminal.Parcelable ∷ Token terminal.Name ∷ Token terminal.OpenBrace ∷ []) part.Member r in
    let h = (head_law (length p.0) terminal.Parcelable refl).gives p.0 (omega arith) p.4 in
    let l = inner_less ts p.0 p.1 p.2 p.3 (first_token p.0 terminal.Parcelable (Token terminal.Name ∷ Token terminal.OpenBrace ∷ []) p.4) in
    let m = ms p.1 (omega arith) p.5 in
    (h.0.1, parcelable m.0, (p.0, p.1, p.2, p.3, h.1, m.1, ((close_law (length p.2)).gives p.2 (omega arith) p.6).1))

union_of : (n : ℕ) → MembersBelow n → (ts : List Tok) → length ts ≤ n → Run ts (Token terminal.Union ∷ braced part.Member) → BodyOf ts
unfolding kind_of is_one
union_of n ms ts le r =
    let p = run_braced ts (Token terminal.Union ∷ Token terminal.Name ∷ Token terminal.OpenBrace ∷ []) part.Member r in
    let h = (head_law (length p.0) terminal.Union refl).gives p.0 (omega arith) p.4 in
    let l = inner_less ts p.0 p.1 p.2 p.3 (first_token p.0 terminal.Union (Token terminal.Name ∷ Token terminal.OpenBrace ∷ []) p.4) in
    let m = ms p.1 (omega arith) p.5 in
    (h.0.1, union m.0, (p.0, p.1, p.2, p.3, h.1, m.1, ((close_law (length p.2)).gives p.2 (omega arith) p.6).1))

enum_of : (ts : List Tok) → Run ts enum_stack → BodyOf ts
enum_of ts r = let x = (enum_law (length ts)).gives ts (omega arith) r in (x.0.0.1, enum x.0.1, x.1)

interface_of : (n : ℕ) → InterfaceMembersBelow n → (ts : List Tok) → length ts ≤ n → Run ts (Token terminal.Interface ∷ braced part.InterfaceMember) → BodyOf ts
interface_of n ms ts le r =
    let p = run_braced ts interface_head part.InterfaceMember r in
    let h = (plain_head (length p.0)).gives p.0 (omega arith) p.4 in
    let l = inner_less ts p.0 p.1 p.2 p.3 (first_token p.0 terminal.Interface (Token terminal.Name ∷ Token terminal.OpenBrace ∷ []) p.4) in
    let m = ms p.1 (omega arith) p.5 in
    (h.0.1, interface false m.0, (p.0, p.1, p.2, p.3, ([], p.0, refl, refl, h.1), m.1, ((close_law (length p.2)).gives p.2 (omega arith) p.6).1))

oneway_of : (n : ℕ) → InterfaceMembersBelow n → (ts : List Tok) → length ts ≤ n → Run ts (Token terminal.Oneway ∷ oneway_body) → BodyOf ts
oneway_of n ms ts le r =
    let p = run_braced ts (Token terminal.Oneway ∷ interface_head) part.InterfaceMember r in
    let h = (oneway_head (length p.0)).gives p.0 (omega arith) p.4 in
    let l = inner_less ts p.0 p.1 p.2 p.3 (first_token p.0 terminal.Oneway interface_head p.4) in
    let m = ms p.1 (omega arith) p.5 in
    (h.0.1.1, interface true m.0, (p.0, p.1, p.2, p.3, h.1, m.1, ((close_law (length p.2)).gives p.2 (omega arith) p.6).1))

body_by : (n : ℕ) → MembersBelow n → InterfaceMembersBelow n → BodiesTo n
unfolding row
body_by n ms is ts le r = let p = run_once ts part.Body r in
    let l : length ts ≡ length (p.0 ∷ p.1) = ap length p.2 in
    subst BodyOf (sym p.2) (go p.0 p.1 (omega arith) (terminal_of p.0.kind) refl p.3) where
      go : (t : Tok) (us : List Tok) → length (t ∷ us) ≤ n → (d : Terminal) → terminal_of t.kind ≡ d → After (Run us) (row part.Body d) → BodyOf (t ∷ us)
      go t us le terminal.Parcelable e h = parcelable_of n ms (t ∷ us) le (token_run t us terminal.Parcelable (braced part.Member) e h)
      go t us le terminal.Union e h = union_of n ms (t ∷ us) le (token_run t us terminal.Union (braced part.Member) e h)
      go t us le terminal.Enum e h = enum_of (t ∷ us) (token_run t us terminal.Enum (Token terminal.Name ∷ Token terminal.OpenBrace ∷ Once part.Enumerator ∷ expected.CommasTrailing part.Enumerator ∷ Token terminal.CloseBrace ∷ []) e h)
      go t us le terminal.Interface e h = interface_of n is (t ∷ us) le (token_run t us terminal.Interface (braced part.InterfaceMember) e h)
      go t us le terminal.Oneway e h = oneway_of n is (t ∷ us) le (token_run t us terminal.Oneway oneway_body e h)
      go t us le _ e h = absurd h

decl_by : (n : ℕ) → BodiesTo n → (ts front back : List Tok) → ts ≡ front ++ back → length back ≤ n → Run front (expected.Many part.Annotation ∷ []) → Run back (Once part.Body ∷ []) → DeclOf ts
decl_by n bodies ts front back is le r q =
    let h = (annots_law (length front)).gives front (omega arith) r in
    let b = bodies back le q in
    (decl (first ts) h.0 b.0 b.1, (front, back, is, h.1, b.2, refl))

-- members

abbrev MemberOf : List Tok → Type 0
MemberOf ts = ((f : Field) × IsField ts f) ⊎ (((c : Constant) × IsConstant ts c) ⊎ DeclOf ts)

abbrev InterfaceMemberOf : List Tok → Type 0
InterfaceMemberOf ts = ((m : Method) × IsMethod ts m) ⊎ (((c : Constant) × IsConstant ts c) ⊎ DeclOf ts)

member_by : (n : ℕ) → BodiesTo n → (ts : List Tok) → length ts ≤ n → Run ts (Once part.Member ∷ []) → MemberOf ts
member_by n bodies ts le r =
    let p = run_rest part.Member part.MemberRest member_annotated ts r in
    let l : length ts ≡ length p.0 + length p.1 = ap length p.2 ∙ length-append p.0 p.1 in
    go p.0 p.1 p.2 (omega arith) p.3 (member_parts p.1 p.4) where
      go : (front back : List Tok) → ts ≡ front ++ back → length back ≤ n → Run front (expected.Many part.Annotation ∷ []) → MemberParts back → MemberOf ts
      go front back is l r (inl q) =
          inl ((field_law n).gives ts le (subst (λ us. Run us (expected.Many part.Annotation ∷ field_stack)) (sym is) (run_append front back (expected.Many part.Annotation ∷ []) field_stack r q)))
      go front back is l r (inr (inl q)) =
          inr (inl ((constant_law n).gives ts le (subst (λ us. Run us (expected.Many part.Annotation ∷ constant_stack)) (sym is) (run_append front back (expected.Many part.Annotation ∷ []) constant_stack r q))))
      go front back is l r (inr (inr q)) = inr (inr (decl_by n bodies ts front back is l r q))

interface_member_by : (n : ℕ) → BodiesTo n → (ts : List Tok) → length ts ≤ n → Run ts (Once part.InterfaceMember ∷ []) → InterfaceMemberOf ts
interface_member_by n bodies ts le r =
    let p = run_rest part.InterfaceMember part.InterfaceMemberRest interface_member_annotated ts r in
    let l : length ts ≡ length p.0 + length p.1 = ap length p.2 ∙ length-append p.0 p.1 in
    go p.0 p.1 p.2 (omega arith) (omega arith) p.3 (interface_member_parts p.1 p.4) where
      go : (front back : List Tok) → ts ≡ front ++ back → length front ≤ n → length back ≤ n → Run front (expected.Many part.Annotation ∷ []) → InterfaceMemberParts back → InterfaceMemberOf ts
      go front back is k l r (inl q) = inl (method_gives n ts front back is k l r q)
      go front back is k l r (inr (inl q)) =
          inr (inl ((constant_law n).gives ts le (subst (λ us. Run us (expected.Many part.Annotation ∷ constant_stack)) (sym is) (run_append front back (expected.Many part.Annotation ∷ []) constant_stack r q))))
      go front back is k l r (inr (inr q)) = inr (inr (decl_by n bodies ts front back is l r q))

member_ahead : (ts front back : List Tok) → ts ≡ front ++ back → MemberOf front → MembersOf back → MembersOf ts
member_ahead ts front back is (inl f) ms = (field f.0 ms.0, (front, back, is, f.1, ms.1))
member_ahead ts front back is (inr (inl c)) ms = (constant c.0 ms.0, (front, back, is, c.1, ms.1))
member_ahead ts front back is (inr (inr d)) ms = (nested d.0 ms.0, (front, back, is, d.1, ms.1))

interface_member_ahead : (ts front back : List Tok) → ts ≡ front ++ back → InterfaceMemberOf front → InterfaceMembersOf back → InterfaceMembersOf ts
interface_member_ahead ts front back is (inl m) ms = (method m.0 ms.0, (front, back, is, m.1, ms.1))
interface_member_ahead ts front back is (inr (inl c)) ms = (constant c.0 ms.0, (front, back, is, c.1, ms.1))
interface_member_ahead ts front back is (inr (inr d)) ms = (nested d.0 ms.0, (front, back, is, d.1, ms.1))

members_by : (n : ℕ) → MembersBelow n → BodiesTo n → (ts : List Tok) → length ts ≤ n → Run ts (expected.Many part.Member ∷ []) → MembersOf ts
members_by n ih bodies ts le r = go (run_then ts (expected.Many part.Member) (row part.Member) (expected.Many part.Member) (many_then part.Member) r) where
  go : (ts ≡ []) ⊎ ElementThen ts (row part.Member) (expected.Many part.Member) → MembersOf ts
  go (inl is) = (none, is)
  go (inr (front, back, is, less, h, q)) =
      let l : length ts ≡ length front + length back = ap length is ∙ length-append front back in
      member_ahead ts front back is (member_by n bodies front (omega arith) (element_once front part.Member h)) (ih back (omega arith) q)

interface_members_by : (n : ℕ) → InterfaceMembersBelow n → BodiesTo n → (ts : List Tok) → length ts ≤ n → Run ts (expected.Many part.InterfaceMember ∷ []) → InterfaceMembersOf ts
interface_members_by n ih bodies ts le r = go (run_then ts (expected.Many part.InterfaceMember) (row part.InterfaceMember) (expected.Many part.InterfaceMember) (many_then part.InterfaceMember) r) where
  go : (ts ≡ []) ⊎ ElementThen ts (row part.InterfaceMember) (expected.Many part.InterfaceMember) → InterfaceMembersOf ts
  go (inl is) = (none, is)
  go (inr (front, back, is, less, h, q)) =
      let l : length ts ≡ length front + length back = ap length is ∙ length-append front back in
      interface_member_ahead ts front back is (interface_member_by n bodies front (omega arith) (element_once front part.InterfaceMember h)) (ih back (omega arith) q)

below : (n : ℕ) → MembersBelow n × InterfaceMembersBelow n
below zero = (λ ts lt r. absurd (omega arith), λ ts lt r. absurd (omega arith))
below (suc n) = let (ms, is) = below n in
    let bodies : BodiesTo n = body_by n ms is in
    (λ ts lt r. members_by n ms bodies ts (omega arith) r, λ ts lt r. interface_members_by n is bodies ts (omega arith) r)

pub decl_law : (n : ℕ) → Law n declared IsDecl
decl_law n = record { reads = λ ts d h. decl_read d ts h; gives = gives } where
  gives : (ts : List Tok) → length ts ≤ n → Run ts declared → DeclOf ts
  gives ts le r =
      let p = run_split ts (expected.Many part.Annotation ∷ []) (Once part.Body ∷ []) r in
      let l : length ts ≡ length p.0 + length p.1 = ap length p.2 ∙ length-append p.0 p.1 in
      let b = below n in
      decl_by n (body_by n b.0 b.1) ts p.0 p.1 p.2 (omega arith) p.3 p.4
