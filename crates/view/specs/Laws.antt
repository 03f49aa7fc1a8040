-- What is proved of the definitions. Each is proved under its name in proofs/, in Serials, Widths, Reaching, Counting and Hearing. Assumes nothing.
use Rattle.std.specs.Prelude.{ℕ, zero, suc, ◌+◌, ◌^◌, ◌<◌, ◌≡◌, ◌≢◌, ◌↔◌, true, false, cond, List, [], ◌∷◌, ◌++◌, length, get_or, drop, ltb, eqb}
use Rattle.paper.specs.Numbers as paper
use Rattle.who.specs.Parts.{serial_fits}
use Rattle.who.specs.Values.{read_only_ids}
use Rattle.laws.specs.Lists.{Bytes}
use Rattle.endian.specs.Numbers.{said}
use Rattle.reply.specs.Replies.{flag_of, rest}
use Rattle.reply.specs.Events.{Event, heard, refused_frame, no_answer}
use Rattle.reply.specs.declared.Status.{Status}
use Rattle.view.specs.Values.{is_understood}
use Rattle.view.specs.Calls.{sight_at, answers, shows, allowed, starting, viewing}
use Rattle.view.specs.declared.Viewer.{Viewer}
use Rattle.view.specs.declared.Next.{Next}
use Rattle.view.specs.declared.Sight.{Sight}
use Rattle.view.specs.declared.Viewed.{Viewed}

-- 1. A serial is understood exactly where it is what the paper says of some serial: "0 to 32 bytes of 0x20..0x7E, one zero byte after it if
-- under 32".
pub record IsSerial (value serial : List ℕ) : Type 0 where
  pub is_fit_lem : serial_fits serial ≡ true
  pub is_value : value ≡ serial ++ cond (ltb (length serial) paper.most_serial) (0 ∷ []) []

abbrev pub SerialIsRead : Type 0
SerialIsRead = (value : List ℕ) → (is_understood paper.serial_id value ≡ true) ↔ ((serial : List ℕ) × IsSerial value serial)

-- A product exactly where it is "four bytes 00, product low, product high, FF"; a version exactly where it has "2 bytes".
abbrev pub ProductIsRead : Type 0
ProductIsRead = (value : List ℕ) → (is_understood paper.product_id value ≡ true) ↔ ((low : ℕ) × (high : ℕ) × (value ≡ 0x00 ∷ low ∷ high ∷ 0xFF ∷ []))

abbrev pub VersionIsRead : Type 0
VersionIsRead = (value : List ℕ) → (is_understood paper.version_id value ≡ true) ↔ (length value ≡ 2)

-- 2. While an id is due, a frame says nothing of it exactly where it is no Get reply whose data are that id, the flag of a status and a value;
-- its value is understood, as one of that id, exactly where the flag is 00 and it is a value of that id; and any other reply to that Get is not.
pub record Understands (id command : ℕ) (bytes : List ℕ) : Type 0 where
  pub is_get : command ≡ paper.get_code
  pub is_good : bytes ≡ said id 0 (rest bytes)
  pub has_value : is_understood id (rest bytes) ≡ true

pub data Sees (id command : ℕ) (bytes : List ℕ) : Sight → Type 0 where
  sees_nothing : ((status : Status) → command ≡ paper.get_code → bytes ≢ said id (flag_of status) (rest bytes)) → Sees id command bytes Sight.Nothing
  sees_value : Understands id command bytes → Sees id command bytes (Sight.Understood id)
  sees_other : (status : Status) → command ≡ paper.get_code → bytes ≡ said id (flag_of status) (rest bytes) → (Understands id command bytes → ⊥)
      → Sees id command bytes (Sight.Strange id)

abbrev pub SightIsSeen : Type 0
SightIsSeen = (id command : ℕ) (bytes : List ℕ) (s : Sight) → id < 256 ^ 2 → Bytes bytes → (sight_at id command bytes ≡ s) ↔ Sees id command bytes s

-- 3. A row of calls, each on the viewer that the last one handed back. A viewer is allowed exactly when a start and events give it.
abbrev pub calls : Viewed → List Event → Viewed
calls last [] = last
calls last (e ∷ more) = calls (viewing last.viewer e) more

abbrev pub AllowedIsReached : Type 0
AllowedIsReached = (v : Viewer) → (allowed v ≡ true) ↔ ((events : List Event) × (v ≡ (calls starting events).viewer))

-- Any other is refused 12 and comes "back as it was", with nothing seen, and no other is.
abbrev pub RefusedIsStray : Type 0
RefusedIsStray =
    (v : Viewer) (e : Event) → (viewing v e ≡ record { viewer = v; next = Next.Refused paper.not_allowed; sight = Sight.Nothing }) ↔ (allowed v ≡ false)

-- 4. Its counts, with no viewer in them: a row of ids and a row of events, where a frame that says something of the first id takes it away,
-- and the third silence in a row ends it.
abbrev pub sight_for : List ℕ → ℕ → List ℕ → Sight
sight_for [] command bytes = Sight.Nothing
sight_for (id ∷ later) command bytes = sight_at id command bytes

-- how many silences in a row there are after a frame that answered this many ids, and after one more silence, which counts while an id is left
abbrev pub since : ℕ → ℕ → ℕ
since answered silences = cond (eqb answered 0) silences 0

abbrev pub one_more : List ℕ → ℕ → ℕ
one_more [] silences = silences
one_more (id ∷ later) silences = suc silences

-- what the answers weigh, and how many silences in a row there are at the end
abbrev pub counted : (Sight → ℕ) → List ℕ → ℕ → List Event → ℕ
counted weigh due n [] = zero
counted weigh due n (heard command bytes ∷ more) =
    let s = sight_for due command bytes in
    weigh s + counted weigh (drop (answers s) due) (since (answers s) n) more
counted weigh due n (refused_frame ∷ more) = counted weigh due n more
counted weigh due n (no_answer ∷ more) = cond (ltb (one_more due n) 3) (counted weigh due (one_more due n) more) zero

abbrev pub silences_in : List ℕ → ℕ → List Event → ℕ
silences_in due n [] = n
silences_in due n (heard command bytes ∷ more) =
    let s = sight_for due command bytes in
    silences_in (drop (answers s) due) (since (answers s) n) more
silences_in due n (refused_frame ∷ more) = silences_in due n more
silences_in due n (no_answer ∷ more) = cond (ltb (one_more due n) 3) (silences_in due (one_more due n) more) 3

-- After a row of calls it is done exactly where all ids were answered, and silent exactly where three silences in a row came to the Get of
-- one id, which is the first that was not answered; otherwise that id is due. The ids are the eight of `who`, in its order.
pub record Counts (ids : List ℕ) (events : List Event) (last : Viewed) : Type 0 where
  pub asked_are : last.viewer.answered ≡ counted answers ids 0 events
  pub understood_are : last.viewer.understood ≡ counted shows ids 0 events
  pub done_when : (last.next ≡ Next.Done) ↔ (counted answers ids 0 events ≡ length ids)
  pub silent_when : (id : ℕ) → (last.next ≡ Next.Silent id) ↔ ((silences_in ids 0 events ≡ 3) × (id ≡ get_or ids (counted answers ids 0 events) 0))
  pub waits_when :
      (id : ℕ)
      → (last.next ≡ Next.Waiting id) ↔ (((silences_in ids 0 events < 3) × (counted answers ids 0 events < length ids)) × (id ≡ get_or ids (counted answers ids 0 events) 0))

abbrev pub CountsAreTrue : Type 0
CountsAreTrue = (events : List Event) → Counts read_only_ids events (calls starting events)

-- 5. A viewer to which no id is due stays as it was, whatever comes.
abbrev pub EndedStays : Type 0
EndedStays =
    (events : List Event) (e : Event) → let last = calls starting events in
    ((id : ℕ) → last.next ≢ Next.Waiting id)
    → viewing last.viewer e ≡ record { viewer = last.viewer; next = last.next; sight = Sight.Nothing }

-- 6. What a call says of a frame is what the frame says of the id that is due; at the start and where no answer came there is none to speak of.
pub record SightIsTold : Type 0 where
  pub at_start : starting.sight ≡ Sight.Nothing
  pub at_silence : (v : Viewer) → (viewing v no_answer).sight ≡ Sight.Nothing
  pub at_frame : (events : List Event) (id command : ℕ) (bytes : List ℕ) → let last = calls starting events in
      last.next ≡ Next.Waiting id → (viewing last.viewer (heard command bytes)).sight ≡ sight_at id command bytes
