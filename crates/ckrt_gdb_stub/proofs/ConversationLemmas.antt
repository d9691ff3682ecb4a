-- What a session hears, byte by byte, and what it gets.
use Rattle.std.proofs.Common.{◌≡◌, ◌⊎◌, inl, inr, ℕ, zero, suc, ◌≤◌, ◌<◌, Bool, true, false, Option, Some, None, List, [], ◌∷◌, ◌++◌, length, take, drop, refl, sym, ap, subst, ◌∙◌, arith, append_assoc, append-nil, drop_of_length-le, length-drop, min, nat_le}
use Rattle.std.proofs.lemmas.Bool.{leb-false, leb-true}
use Rattle.std.proofs.lemmas.List.{take_min}
use Rattle.std.specs.Prelude.{IfErr, IfOk, IsErrOf, OnErr, Result, Ok, Err, codes, is_some}
use Rattle.std.specs.Result.{IsErrAnd}
use Rattle.std.specs.Io.KnownBytes.{Appends, Consumes, Keeps}
use Rattle.ckrt_disk.specs.Writing.{AppendsPart}
use Rattle.ckrt_disk.proofs.WriteLemmas.{Appends-append, Appends-nothing}
use Rattle.ckrt_gdb_forms.specs.Framing.{frame_of, line_after}
use Rattle.ckrt_gdb_forms.specs.declared.request.Request.{Request}
use Rattle.ckrt_gdb_stub.specs.declared.fault.DebugFault.{DebugFault}
use Rattle.ckrt_gdb_stub.specs.declared.fault.DebugFault.TheVariants.{OutOfMemory, Range, Read, Refused, Write}
use Rattle.ckrt_gdb_stub.specs.declared.line.Line.{Line}
use Rattle.ckrt_gdb_stub.specs.Monitor.{Obeys}
use Rattle.ckrt_gdb_playback.specs.Playback.{IsPlayable}
use Rattle.ckrt_gdb_stub.specs.Conversation.{Advances, Breaks, BreaksAfter, BreaksByte, BreaksOff, BreaksRequest, Goes, HasHeard, Hears, HearsAll, IsReply, Replies, RepliesBy, RepliesToGdb, RepliesToUser, RespondsTo, TakesMemory, Talk, Writes, asked_by, begun, console_frames, console_in, console_text, hearing, monitored, note_of, sign_in, talk_of}
use Rattle.ckrt_gdb_stub.specs.declared.stub.Stub.{Stub}
use Rattle.ckrt_gdb_stub.specs.Session.{Answers}

-- WRITERS

-- a part of what follows a text is a part of both
pub part_behind : (a b c : Option (List ℕ)) (x y : List ℕ) → Appends a b x → AppendsPart b c y → AppendsPart a c (x ++ y)
part_behind a b c x y p part =
    (x ++ part.0, (part.1.0, ap (λ l. x ++ l) part.1.1 ∙ sym (append_assoc x part.0 part.1.0)), Appends-append a b c x part.0 p part.2)

-- a part of a text is a part of what goes on behind it
pub part_front : (a b : Option (List ℕ)) (x y : List ℕ) → AppendsPart a b x → AppendsPart a b (x ++ y)
part_front a b x y part =
    (part.0, (part.1.0 ++ y, ap (λ l. l ++ y) part.1.1 ∙ append_assoc part.0 part.1.0 y), part.2)

-- a call that was broken off behind a text
pub parts_behind : {A : Type 0} (r : Result A DebugFault) (a b c : Option (List ℕ)) (x y : List ℕ) → Appends a b x → OnErr r (AppendsPart b c y) → OnErr r (AppendsPart a c (x ++ y))
parts_behind (Ok z) a b c x y p part = tt
parts_behind (Err e) a b c x y p part = part_behind a b c x y p part

-- THE CONSOLE

-- more packets than there are bytes make no difference
console_enough : (n m : ℕ) (bytes : List ℕ) → length bytes ≤ n → length bytes ≤ m → console_in n bytes ≡ console_in m bytes
console_enough zero zero bytes p q = refl
console_enough zero (suc m) [] p q = refl
console_enough zero (suc m) (b ∷ bytes) p q = absurd (omega (arith, p))
console_enough (suc n) zero [] p q = refl
console_enough (suc n) zero (b ∷ bytes) p q = absurd (omega (arith, q))
console_enough (suc n) (suc m) [] p q = refl
console_enough (suc n) (suc m) (b ∷ bytes) p q =
    let less = length-drop 2000 (b ∷ bytes) in
    ap (λ l. frame_of (console_text (take 2000 (b ∷ bytes))) ++ l)
    (console_enough n m (drop 2000 (b ∷ bytes)) (omega (arith, p, less)) (omega (arith, q, less)))

-- a packet, and then the rest
pub console_next : (bytes : List ℕ) → 0 < length bytes
    → console_frames bytes ≡ frame_of (console_text (take 2000 bytes)) ++ console_frames (drop 2000 bytes)
console_next [] some = absurd (omega (arith, some))
console_next (b ∷ bytes) some =
    let less = length-drop 2000 (b ∷ bytes) in
    ap (λ l. frame_of (console_text (take 2000 (b ∷ bytes))) ++ l)
    (console_enough (length bytes) (length (drop 2000 (b ∷ bytes))) (drop 2000 (b ∷ bytes)) (omega (arith, less)) (omega arith))

-- as many bytes as a packet takes, or all
drop_all : (n : ℕ) (xs : List ℕ) → length xs ≤ n → drop (length xs) xs ≡ drop n xs
drop_all n xs few = drop_of_length-le xs (omega arith) ∙ sym (drop_of_length-le xs few)

drop_min : (n : ℕ) (xs : List ℕ) → drop (min n (length xs)) xs ≡ drop n xs
drop_min n xs = by (nat_le n (length xs)) refl
  where
    by : (b : Bool) → nat_le n (length xs) ≡ b → drop (min n (length xs)) xs ≡ drop n xs
    by true is =
        let few : n ≤ length xs = leb-true n (length xs) is in
        let e : min n (length xs) ≡ n = omega (arith, few) in ap (λ k. drop k xs) e
    by false is =
        let many : length xs < n = leb-false n (length xs) is in
        let e : min n (length xs) ≡ length xs = omega (arith, many) in ap (λ k. drop k xs) e ∙ drop_all n xs (omega (arith, many))

module _ (a b c : Option (List ℕ)) (text rest done part more : List ℕ) (k : ℕ) (some : 0 < length rest) (so : Appends a b done)
    (is : console_frames text ≡ done ++ console_frames rest) (count : k ≡ min 2000 (length rest)) (front : part ≡ take k rest) (back : more ≡ drop k rest) where
  told_next : console_frames rest ≡ frame_of (console_text part) ++ console_frames more
  told_next =
      let fronts : take 2000 rest ≡ part = sym (take_min 2000 rest) ∙ ap (λ n. take n rest) (sym count) ∙ sym front in
      let backs : drop 2000 rest ≡ more = sym (drop_min 2000 rest) ∙ ap (λ n. drop n rest) (sym count) ∙ sym back in
      console_next rest some ∙ ap (λ l. frame_of (console_text l) ++ console_frames (drop 2000 rest)) fronts ∙ ap (λ l. frame_of (console_text part) ++ console_frames l) backs

  whole_told : console_frames text ≡ done ++ (frame_of (console_text part) ++ console_frames more)
  whole_told = is ∙ ap (λ l. done ++ l) told_next

  -- a packet was sent
  pub told_more : Appends b c (frame_of (console_text part)) → (x : List ℕ) × Appends a c x × (console_frames text ≡ x ++ console_frames more)
  told_more sent = (
    done ++ frame_of (console_text part),
    Appends-append a b c done (frame_of (console_text part)) so sent,
    whole_told ∙ sym (append_assoc done (frame_of (console_text part)) (console_frames more)),
  )

  -- or broken off
  pub told_part : AppendsPart b c (frame_of (console_text part)) → AppendsPart a c (console_frames text)
  told_part sent =
      subst (AppendsPart a c) (sym whole_told)
      (part_behind a b c done (frame_of (console_text part) ++ console_frames more) so (part_front b c (frame_of (console_text part)) (console_frames more) sent))

-- BYTES

-- one byte more
pub hears_more : (bytes : List ℕ) (b : ℕ) (old mid new : Talk) (out more : List ℕ) → HearsAll bytes old mid out → Hears b mid new more false → HearsAll (bytes ++ b ∷ []) old new (out ++ more)
hears_more [] b old mid new out more h x =
    (new, more, [], subst (λ (t : Talk). Hears b t new more false) h.0 x, (refl, refl), ap (λ l. l ++ more) h.1 ∙ sym (append-nil more))
hears_more (y ∷ ys) b old mid new out more h x =
    (h.0, h.1, h.2 ++ more, h.3, hears_more ys b h.0 mid new h.2 more h.4 x, ap (λ l. l ++ more) h.5 ∙ append_assoc h.1 h.2 more)

-- WHAT WAS READ

consumes_nothing : (r : Option (List ℕ)) → Consumes r r []
consumes_nothing None = tt
consumes_nothing (Some s) = refl

consumes_more : (r s t : Option (List ℕ)) (x y : List ℕ) → Consumes r s x → Consumes s t y → Consumes r t (x ++ y)
consumes_more None s t x y p q = tt
consumes_more (Some l) None t x y p q = absurd p
consumes_more (Some l) (Some m) None x y p q = absurd q
consumes_more (Some l) (Some m) (Some n) x y p q = p ∙ (ap (λ l. x ++ l) q ∙ sym (append_assoc x y n))

module _ (r s t a b : Option (List ℕ)) (old mid : Talk) (so : HasHeard r s a b old mid) where
  -- a byte more
  pub heard_more : (c : Option (List ℕ)) (byte : ℕ) (new : Talk) (out : List ℕ) → Consumes s t (byte ∷ []) → Hears byte mid new out false → Appends b c out → HasHeard r t a c old new
  heard_more c byte new out got hears wrote = record {
    read = so.read ++ byte ∷ [];
    out = so.out ++ out;
    hears = hears_more so.read byte old mid new so.out out so.hears hears;
    consumed = consumes_more r s t so.read (byte ∷ []) so.consumed got;
    written = Appends-append a b c so.out out so.written wrote;
  }

-- nothing yet
pub heard_nothing : (r a : Option (List ℕ)) (old : Talk) → HasHeard r r a a old old
heard_nothing r a old = record {
  read = [];
  out = [];
  hears = (refl, refl);
  consumed = consumes_nothing r;
  written = Appends-nothing a;
}

-- REPLIES

-- what a fault that a call answers says
pub answers_err : {A : Type 0} (r : Result A DebugFault) (e : DebugFault) (P : DebugFault → Type 0) → r ≡ Err e → P e → IfErr r P
answers_err r e P is p = subst (λ s. IfErr s P) (sym is) p

-- a fault that is handed on as it is
pub err_is : {A : Type 0} (r : Result A DebugFault) (e : DebugFault) → IsErrAnd r (λ x. x ≡ e) → r ≡ Err e
err_is (Ok x) e is = absurd is
err_is (Err x) e is = ap Err is

-- the writer broke a reply off
pub writer_broke : (Is : IsReply) (old new : Stub) (a b : Option (List ℕ)) (frames sent : List ℕ) (e : DebugFault) → e ≡ Write → Is new frames sent
    → AppendsPart a b frames → Breaks e Is old a b
writer_broke Is old new a b frames sent e is reply part = subst (λ f. Breaks f Is old a b) (sym is) (new, frames, sent, reply, part)

-- there was none
pub replay_broke : (Is : IsReply) (old : Stub) (a : Option (List ℕ)) (e : DebugFault) → (e ≡ Refused) ⊎ (e ≡ OutOfMemory)
    → (IsErrOf {T = Stub} (Err e) Refused → IsPlayable old.playback → ⊥) → Breaks e Is old a a
replay_broke Is old a e (inl is) why = subst (λ f. Breaks f Is old a a) (sym is) (Appends-nothing a, why (ap Err is))
replay_broke Is old a e (inr is) why = subst (λ f. Breaks f Is old a a) (sym is) (Appends-nothing a)

-- A COMMAND OF THE USER'S

-- what stands in an empty console is what was told
pub all_told : (seen out begun told : List ℕ) → seen ≡ out → out ≡ begun ++ told → begun ≡ [] → seen ≡ told
all_told seen out begun told same is none = same ∙ (is ∙ ap (λ l. l ++ told) none)

module _ (text told console : List ℕ) (old new : Stub) (obeys : Obeys text old new console) (same : told ≡ console) (a b : Option (List ℕ)) where
  pub user_reply : RepliesToUser text old new (console_frames console ++ frame_of (codes "OK")) (frame_of (codes "OK"))
  user_reply = (console, obeys, refl, refl)

  -- what it tells was broken off
  pub tell_broke : (e : DebugFault) → e ≡ Write → AppendsPart a b (console_frames told) → Breaks e (RepliesToUser text old) old a b
  tell_broke e is part =
      writer_broke (RepliesToUser text old) old new a b (console_frames console ++ frame_of (codes "OK")) (frame_of (codes "OK")) e is user_reply
      (part_front a b (console_frames console) (frame_of (codes "OK")) (subst (λ l. AppendsPart a b (console_frames l)) same part))

  -- the frame behind it was
  pub ok_broke : (c : Option (List ℕ)) (e : DebugFault) → e ≡ Write → Appends a b (console_frames told) → AppendsPart b c (frame_of (codes "OK")) → Breaks e (RepliesToUser text old) old a c
  ok_broke c e is first part =
      writer_broke (RepliesToUser text old) old new a c (console_frames console ++ frame_of (codes "OK")) (frame_of (codes "OK")) e is user_reply
      (part_behind a b c (console_frames console) (frame_of (codes "OK")) (subst (λ l. Appends a b (console_frames l)) same first) part)

  -- all was told
  pub user_told : (c : Option (List ℕ)) (sent : List ℕ) → sent ≡ frame_of (codes "OK") → Appends a b (console_frames told) → Appends b c (frame_of (codes "OK"))
      → Writes (RepliesToUser text old) new sent a c
  user_told c sent is first last = (
    console_frames console ++ frame_of (codes "OK"),
    subst (λ s. RepliesToUser text old new (console_frames console ++ frame_of (codes "OK")) s) (sym is) user_reply,
    Appends-append a b c (console_frames console) (frame_of (codes "OK")) (subst (λ l. Appends a b (console_frames l)) same first) last,
  )

-- A REQUEST OF GDB'S OWN

module _ (request : Request) (old new : Stub) (payload note : List ℕ) (answers : Answers request old new payload) (is : note ≡ note_of request old new) where
  gdb_reply : RepliesToGdb request old new (console_frames note ++ frame_of payload) (frame_of payload)
  gdb_reply = (payload, answers, refl, ap (λ l. console_frames l ++ frame_of payload) is)

  -- it was answered
  pub gdb_told : (sent : List ℕ) (a b : Option (List ℕ)) → sent ≡ frame_of payload → Appends a b (console_frames note ++ frame_of payload) → Writes (RepliesToGdb request old) new sent a b
  gdb_told sent a b same wrote = (console_frames note ++ frame_of payload, subst (λ s. RepliesToGdb request old new (console_frames note ++ frame_of payload) s) (sym same) gdb_reply, wrote)

  -- or that was broken off
  pub gdb_broke : (a b : Option (List ℕ)) (e : DebugFault) → e ≡ Write → AppendsPart a b (console_frames note ++ frame_of payload) → Breaks e (RepliesToGdb request old) old a b
  gdb_broke a b e same part = writer_broke (RepliesToGdb request old) old new a b (console_frames note ++ frame_of payload) (frame_of payload) e same gdb_reply part

-- BY WHAT A REQUEST IS

-- memory is taken for the user's
pub user_takes : (request : Request) (text : List ℕ) (r : Result Stub DebugFault) → monitored request ≡ Some text → IfErr r (λ e. TakesMemory e request)
user_takes request text (Ok stub) is = tt
user_takes request text (Err e) is = λ _. ap is_some is

-- and for nobody else's
pub gdb_takes_none : (request : Request) (r : Result Stub DebugFault) → IfErr r (λ e. e ≡ OutOfMemory → ⊥) → IfErr r (λ e. TakesMemory e request)
gdb_takes_none request (Ok stub) none = tt
gdb_takes_none request (Err e) none = λ is. absurd (none is)

-- a writer that breaks refuses no memory
pub no_memory : (e : DebugFault) → e ≡ Write → e ≡ OutOfMemory → ⊥
no_memory e is same = absurd (cc)

-- why a request isn't answered, where it isn't
pub broken_request : (request : Request) (asked : Option Request) (old : Stub) (a b : Option (List ℕ)) (e : DebugFault) → asked ≡ Some request
    → Breaks e (Replies request old) old a b → TakesMemory e request → BreaksRequest e asked old a b
broken_request request asked old a b e is broken takes = subst (λ (o : Option Request). BreaksRequest e o old a b) (sym is) (broken, takes)

pub broken_by : (request : Request) (old : Stub) (a b : Option (List ℕ)) (by : Option (List ℕ)) (r : Result Stub DebugFault) → monitored request ≡ by
    → IfErr r (λ e. Breaks e (RepliesBy by request old) old a b) → IfErr r (λ e. Breaks e (Replies request old) old a b)
broken_by request old a b by r is h = subst (λ o. IfErr r (λ e. Breaks e (RepliesBy o request old) old a b)) (sym is) h

-- A BYTE, which the line hears

module _ (byte : ℕ) (stub : Stub) (old mid : Line) (asked : Option Request) (a b : Option (List ℕ)) (asks : asked ≡ asked_by byte old.receiver)
    (heard : mid.receiver ≡ line_after byte old.receiver) (kept : (mid.frame ≡ old.frame) × (mid.is_acknowledged ≡ old.is_acknowledged))
    (signed : Appends a b (sign_in byte old)) where
  hearing_is : talk_of stub mid ≡ hearing byte (talk_of stub old)
  hearing_is = λ i. record { stub = stub; heard = heard i; sent = (kept.0 i).items; acknowledges = kept.1 i }

  -- and what it asks is answered
  pub heard_byte : {T : Type 0} (stub_of : T → Stub) (left_of : T → Bool) (new : Line) (c : Option (List ℕ)) (r : Result T DebugFault)
      → IfOk r (λ x. (frames : List ℕ) × RespondsTo asked (talk_of stub mid) (talk_of (stub_of x) new) frames (left_of x) × Appends b c frames)
      → IfOk r (λ x. (out : List ℕ) × Hears byte (talk_of stub old) (talk_of (stub_of x) new) out (left_of x) × Appends a c out)
  heard_byte stub_of left_of new c (Ok x) h = (
    sign_in byte old ++ h.0,
    record {
      frames = h.0;
      responds = subst (λ (o : Option Request). RespondsTo o (hearing byte (talk_of stub old)) (talk_of (stub_of x) new) h.0 (left_of x)) asks
          (subst (λ (t : Talk). RespondsTo asked t (talk_of (stub_of x) new) h.0 (left_of x)) hearing_is h.1);
      written = refl;
    },
    Appends-append a b c (sign_in byte old) h.0 signed h.2,
  )
  heard_byte stub_of left_of new c (Err e) h = tt

  -- or broken off
  pub request_broke : {T : Type 0} (c : Option (List ℕ)) (r : Result T DebugFault) → IfErr r (λ e. BreaksRequest e asked stub b c)
      → IfErr r (λ e. BreaksByte e byte (talk_of stub old) a c)
  request_broke c (Ok x) h = tt
  request_broke c (Err e) h = inr (b, signed, subst (λ (o : Option Request). BreaksRequest e o stub b c) asks h)

-- its sign was broken off
pub sign_broke : (byte : ℕ) (stub : Stub) (old : Line) (a b : Option (List ℕ)) (e : DebugFault) → e ≡ Write → AppendsPart a b (sign_in byte old)
    → BreaksByte e byte (talk_of stub old) a b
sign_broke byte stub old a b e is part = subst (λ f. BreaksByte f byte (talk_of stub old) a b) (sym is) (inl part)

-- A SESSION

module _ (old : Talk) (byte : ℕ) (a b r s : Option (List ℕ)) (got : Consumes r s (byte ∷ [])) where
  -- gdb stays, or it leaves
  pub goes_on : (new : Talk) (out : List ℕ) (has_left : Bool) → Hears byte old new out has_left → Appends a b out → has_left ≡ false → Advances (Some new) old r s a b
  goes_on new out has_left hears wrote is = record {
    byte = byte;
    out = out;
    hears = subst (λ l. Hears byte old new out l) is hears;
    consumed = got;
    written = wrote;
  }

  pub left_by : (new : Talk) (out : List ℕ) (has_left : Bool) → Hears byte old new out has_left → Appends a b out → has_left ≡ true → Advances None old r s a b
  left_by new out has_left hears wrote is = inr (record {
    byte = byte;
    new = new;
    out = out;
    hears = subst (λ l. Hears byte old new out l) is hears;
    consumed = got;
    written = wrote;
  })

  no_request : (o : Option Request) (c : Option (List ℕ)) → BreaksRequest Read o old.stub c b → ⊥
  no_request None c h = h
  no_request (Some request) c h = h.0

  no_read : BreaksByte Read byte old a b → ⊥
  no_read (inl sign) = sign
  no_read (inr rest) = no_request (asked_by byte old.heard) rest.0 rest.2

  -- it got only a part
  pub broken_byte : (e : DebugFault) → BreaksByte e byte old a b → BreaksAfter e old r s a b
  broken_byte Read part = absurd (no_read part)
  broken_byte Write part = (byte, got, part)
  broken_byte Refused part = (byte, got, part)
  broken_byte Range part = (byte, got, part)
  broken_byte OutOfMemory part = (byte, got, part)

-- no session ends with Range
module _ (old : Talk) (r s a b : Option (List ℕ)) where
  no_place : (o : Option Request) (c : Option (List ℕ)) → BreaksRequest Range o old.stub c b → ⊥
  no_place None c h = h
  no_place (Some request) c h = h.0

  no_range : (byte : ℕ) → BreaksByte Range byte old a b → ⊥
  no_range byte (inl sign) = sign
  no_range byte (inr rest) = no_place (asked_by byte old.heard) rest.0 rest.2

  pub never_range : (e : DebugFault) → BreaksAfter e old r s a b → e ≡ Range → ⊥
  never_range e part is =
      let h = subst (λ f. BreaksAfter f old r s a b) is part in no_range h.0 h.2

-- the reader failed
pub unread : (old : Talk) (a r s : Option (List ℕ)) (e : DebugFault) → e ≡ Read → Keeps r s → BreaksAfter e old r s a a
unread old a r s e is kept = subst (λ f. BreaksAfter f old r s a a) (sym is) (kept, refl)

kept_itself : (r : Option (List ℕ)) → Keeps r r
kept_itself None = tt
kept_itself (Some bytes) = refl

module _ (stub : Stub) (r s a b : Option (List ℕ)) (now : Talk) (so : HasHeard r s a b (begun stub) now) where
  -- all that is left to read was read
  pub read_out : BreaksOff Read stub r s a b
  read_out = (s, b, now, so, (kept_itself s, refl))

  -- behind one byte more
  pub heard_on : (t c : Option (List ℕ)) (new : Talk) → Goes s t b c now new → HasHeard r t a c (begun stub) new
  heard_on t c new goes = heard_more r s t a b (begun stub) now so c goes.byte new goes.out goes.consumed goes.hears goes.written
