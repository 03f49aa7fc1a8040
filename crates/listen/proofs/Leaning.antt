-- What the caller of one read may lean on. Assumes nothing.
use mathlib.Core.Path.{◌≡◌, refl, sym, ap, subst, ◌∙◌}
use mathlib.Core.Bool.{Bool, true, false, not}
use mathlib.Core.List.{List, [], ◌∷◌}
use mathlib.Core.Option.{none}
use Prim.Native.Nat.{ℕ, ◌≤◌}
use native.Mathlib.Omega.{arith}
use borrow.Author.Tests.{lt-ltb, le-ltb, ltb-true, ltb-false}
use lib.ListN.{length, take}
use lib.Seq.{take_all}
use lib.Dec.{ltb}
use Rattle.laws.specs.Promise.{Given}
use Rattle.laws.specs.Refusals.{row, first_of}
use Rattle.wire.specs.Parsing.{Ended, good, refused}
use Rattle.stream.specs.Stream.{frames_from, taken}
use Rattle.stream.specs.Calls.{allowed, unfinished, event_of, data_of_first}
use Rattle.wire.specs.Laws.{Writable}
use Rattle.stream.specs.Laws.{Writables, whole}
use Rattle.stream.specs.Laws as stream
use Rattle.stream.specs.Answers.{Event}
use Rattle.std.specs.Prelude.{Some, None, Ok, Err}
use Rattle.wire.specs.declared.Frame.{Frame}
use Rattle.stream.specs.declared.Heard.{Heard}
use Rattle.stream.proofs.Theorems.{heard_is_writable, only_a_frame_is_written}
use Rattle.stream.proofs.Streams.{taken_within}
use Rattle.stream.proofs.Cuts.{taken_is}
use Rattle.reply.specs.Events.{OnStream, nothing, a_frame, a_refusal, a_silence}
use Rattle.listen.specs.declared.Told.{Told}
use Rattle.listen.specs.declared.Listened.{Listened}
use Rattle.listen.specs.Hearing.{box_hearing}
use Rattle.listen.specs.Calls.{is_over, told_by, listening}
use Rattle.listen.specs.Laws.{events_in, Whole, ReadTakesToTheEnd, refusal_of, ReadGivenWhen, CallIsRefused, TakenIsWithin, FrameIsWhole, is_frame, OnlyAFrameIsWritten, EventsAreOnStream}
use Rattle.listen.proofs.Hearing.{box_heard}
use Rattle.listen.proofs.Settling.{listening_short, listening_stray, listening_late, listening_heard, cases}

pub call_refused : CallIsRefused
unfolding listening
call_refused =
    record { short = λ l piece time room h. rw (lt-ltb room 35 h); stray = λ l piece time room h e. rw (le-ltb room 35 h, e) }

-- what the stream hears is no refusal of the call
heard_none : (e : Event) → refusal_of (told_by e) ≡ none
heard_none (Ok None) = refl
heard_none (Ok (Some frame)) = refl
heard_none (Err refusal) = refl

pub given_when : ReadGivenWhen
given_when l piece time room = by _ _ _ refl refl refl
  where
    by : (a b c : Bool) → ltb room 35 ≡ a → allowed l.held ≡ b → is_over l.begun l.asked time ≡ c
        → refusal_of (listening l piece time room).answer.told ≡ first_of (row 11 (ltb room 35) ∷ row 12 (not (allowed l.held)) ∷ [])
    by true b c p q r = rw (listening_short l piece time room (ltb-true room 35 p), p)
    by false false c p q r = rw (listening_stray l piece time room (ltb-false room 35 p) q, p, q)
    by false true true p q r = rw (listening_late l piece time room (ltb-false room 35 p) q r, p, q)
    by false true false p q r = rw (listening_heard l piece time room (ltb-false room 35 p) q r, p, q) (heard_none (box_hearing l.held piece room).answer.event)

-- a frame is told exactly where the stream heard one
frame_told : (e : Event) → is_frame (told_by e) ≡ stream.is_frame e
frame_told (Ok None) = refl
frame_told (Ok (Some frame)) = refl
frame_told (Err refusal) = refl

pub only_frame : OnlyAFrameIsWritten
unfolding box_hearing
only_frame l piece time room =
    cases l piece time room (λ g. is_frame g.answer.told ≡ false → g.written ≡ []) (λ n h. refl) (λ enough ok over h. refl)
    (λ enough ok early h. only_a_frame_is_written l.held piece room (sym (frame_told (box_hearing l.held piece room).answer.event) ∙ h))

pub taken_fits : TakenIsWithin
taken_fits l piece time room =
    cases l piece time room (λ g. g.answer.taken ≤ length piece) (λ n. omega arith) (λ enough ok over. omega arith)
    (λ enough ok early. subst (λ (g : Given Heard). g.answer.taken ≤ length piece) (sym (box_heard l.held piece room enough ok)) (taken_within (unfinished l.held) piece))

pub takes_to_the_end : ReadTakesToTheEnd
takes_to_the_end l piece time room enough ok early =
    ap (λ (g : Given Listened). g.answer.taken) (listening_heard l piece time room enough ok early)
    ∙ (ap (λ (g : Given Heard). g.answer.taken) (box_heard l.held piece room enough ok) ∙ taken_is (unfinished l.held) piece)

-- a frame that is told

told_frame : (e : Event) (frame : Frame) → told_by e ≡ Told.Frame frame → e ≡ Ok (Some frame)
told_frame (Ok None) frame e = let impossible : ⊥ = cc in absurd impossible
told_frame (Ok (Some f)) frame e = cc
told_frame (Err refusal) frame e = let impossible : ⊥ = cc in absurd impossible

frame_of : (frames : List Ended) (frame : Frame) → Writables frames → event_of frames ≡ Ok (Some frame) → Whole frame.command frame.len (data_of_first frames)
frame_of [] frame w e = let impossible : ⊥ = cc in absurd impossible
frame_of (refused refusal ∷ rest) frame w e = let impossible : ⊥ = cc in absurd impossible
frame_of (good c bytes ∷ rest) frame (whole w ws) e =
    let same : ◌≡◌ {A = Frame} (record { command = c; len = length bytes }) frame = cc in
    record { long = ap (λ (f : Frame). f.len) (sym same); writable = subst (λ (f : Frame). Writable f.command bytes) same w }

pub frame_whole : FrameIsWhole
frame_whole l piece time room frame =
    cases l piece time room (λ g. g.answer.told ≡ Told.Frame frame → Whole frame.command frame.len g.written)
    (λ n e. let impossible : ⊥ = cc in absurd impossible)
    (λ enough ok over e. let impossible : ⊥ = cc in absurd impossible)
    (λ enough ok early e. hears enough ok (told_frame (box_hearing l.held piece room).answer.event frame e))
  where
    hears : 35 ≤ room → allowed l.held ≡ true → (box_hearing l.held piece room).answer.event ≡ Ok (Some frame) → Whole frame.command frame.len (box_hearing l.held piece room).written
    hears enough ok e =
        let heard = box_heard l.held piece room enough ok in
        let bytes : List ℕ = take (taken (unfinished l.held) piece) piece in
        rw heard (frame_of (frames_from (unfinished l.held) bytes) frame (heard_is_writable (unfinished l.held) bytes) (rw heard at e))

-- and every event is one of a stream

told_on_stream : (told : Told) (written : List ℕ) → ((frame : Frame) → told ≡ Told.Frame frame → Whole frame.command frame.len written) → OnStream (events_in told written)
told_on_stream Told.Nothing written w = nothing
told_on_stream (Told.Frame frame) written w =
    let is = w frame refl in
    let long : frame.len ≡ length written = is.long in
    rw (take_all frame.len written (omega arith)) (a_frame is.writable.small nothing)
told_on_stream (Told.Broken refusal) written w = a_refusal nothing
told_on_stream Told.NoAnswer written w = a_silence nothing
told_on_stream (Told.Refused refusal) written w = nothing

pub on_stream : EventsAreOnStream
on_stream l piece time room =
    told_on_stream (listening l piece time room).answer.told (listening l piece time room).written (frame_whole l piece time room)
