-- What each public call answers, for every input. All of it is ours. Assumes nothing.
use Rattle.std.specs.Prelude.{ℕ, suc, ◌+◌, Bool, cond, ◌&&◌, List, ltb, leb, eqb, Some, None}
use Rattle.paper.specs.Numbers.{get_code, not_allowed}
use Rattle.reply.specs.Replies.{rest}
use Rattle.reply.specs.Calls.{heeding}
use Rattle.reply.specs.Answers.{Heeded}
use Rattle.reply.specs.Events.{Event, heard, refused_frame, no_answer, most_tries}
use Rattle.reply.specs.declared.Status.{Status}
use Rattle.view.specs.Values.{count, id_at, is_understood}
use Rattle.view.specs.declared.Viewer.{Viewer}
use Rattle.view.specs.declared.Next.{Next}
use Rattle.view.specs.declared.Sight.{Sight}
use Rattle.view.specs.declared.Viewed.{Viewed}

-- What a frame comes to while an id is due: only a good reply to its Get has a value to understand; what keeps waiting says nothing of it.
abbrev pub on_status : ℕ → List ℕ → Status → Sight
on_status id value Status.Good = cond (is_understood id value) (Sight.Understood id) (Sight.Strange id)
on_status id value Status.UnknownId = Sight.Strange id
on_status id value Status.NotSupported = Sight.Strange id
on_status id value Status.ParameterError = Sight.Strange id

abbrev pub on_heeded : ℕ → List ℕ → Heeded → Sight
on_heeded id value None = Sight.Nothing
on_heeded id value (Some status) = on_status id value status

unfoldable pub sight_at : ℕ → ℕ → List ℕ → Sight
sight_at id command bytes = on_heeded id (rest bytes) (heeding get_code id command bytes)

-- A Get changes nothing on the board, so it is asked again, three times in all, and the third "no answer" in a row ends the viewer. While an
-- id is due, fewer came to its Get, and after the last id nothing is due.
unfoldable pub is_waiting : Viewer → Bool
is_waiting v = ltb v.answered count && ltb v.silences most_tries

-- only a frame says something of the due id
unfoldable pub sight_of : Viewer → Event → Sight
sight_of v (heard command bytes) = cond (is_waiting v) (sight_at (id_at v.answered) command bytes) Sight.Nothing
sight_of v refused_frame = Sight.Nothing
sight_of v no_answer = Sight.Nothing

-- how many ids a frame answers, and how many of them with a value that is understood
abbrev pub answers : Sight → ℕ
answers Sight.Nothing = 0
answers (Sight.Understood id) = 1
answers (Sight.Strange id) = 1

abbrev pub shows : Sight → ℕ
shows Sight.Nothing = 0
shows (Sight.Understood id) = 1
shows (Sight.Strange id) = 0

-- how many silences in a row there are after a frame: an answer ends the row
abbrev pub quiet : Sight → ℕ → ℕ
quiet Sight.Nothing n = n
quiet (Sight.Understood id) n = 0
quiet (Sight.Strange id) n = 0

abbrev pub moved : Viewer → Sight → Viewer
moved v s = record { answered = v.answered + answers s; understood = v.understood + shows s; silences = quiet s v.silences }

abbrev pub silenced : Viewer → Viewer
silenced v = record { answered = v.answered; understood = v.understood; silences = suc v.silences }

-- a viewer after an event: "Ended stays ended."
unfoldable pub advanced : Viewer → Event → Viewer
advanced v (heard command bytes) = moved v (sight_of v (heard command bytes))
advanced v refused_frame = v
advanced v no_answer = cond (is_waiting v) (silenced v) v

abbrev pub begun : Viewer
begun = record { answered = 0; understood = 0; silences = 0 }

-- The viewers that a start and events give (the law AllowedIsReached says so, both ways): no more ids are answered than there are, there are
-- at most three silences while one is not answered, and none where all are.
abbrev pub within : ℕ → ℕ → Bool
within answered silences = cond (ltb answered count) (leb silences most_tries) (eqb answered count && eqb silences 0)

unfoldable pub allowed : Viewer → Bool
allowed v = leb v.understood v.answered && within v.answered v.silences

-- the id that is due, or to whose Get no answer came; or all were answered
abbrev pub next_at : ℕ → ℕ → Next
next_at id silences = cond (ltb silences most_tries) (Next.Waiting id) (Next.Silent id)

abbrev pub next_of : Viewer → Next
next_of v = cond (ltb v.answered count) (next_at (id_at v.answered) v.silences) Next.Done

abbrev pub told : Viewer → Sight → Viewed
told v s = record { viewer = v; next = next_of v; sight = s }

-- "a state handed in comes back as it was"
abbrev pub stray : Viewer → Viewed
stray v = record { viewer = v; next = Next.Refused not_allowed; sight = Sight.Nothing }

abbrev pub starting : Viewed
starting = told begun Sight.Nothing

-- a frame read and no answer alike (a frame that the stream refused is handed to no call)
unfoldable pub viewing : Viewer → Event → Viewed
viewing v e = cond (allowed v) (told (advanced v e) (sight_of v e)) (stray v)
