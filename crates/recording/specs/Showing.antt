-- What is shown of a recording. Assumes nothing: these are definitions.
use Rattle.std.specs.Prelude.{ℕ, cond, List, ◌++◌, length, take, drop, Ok, Err, Result, nat_lt}
use Rattle.picture.specs.Picture.{picture_of}
use Rattle.recording.specs.declared.fault.Fault.{Fault}
use Rattle.recording.specs.declared.show.Shown.{Shown}
use Rattle.recording.specs.declared.show.Unshown.{Unshown}
use Rattle.recording.specs.declared.show.Unshown.TheVariants.{Recording, Beyond, Picture}
use Rattle.recording.specs.Matches.{Match, after_frames}

-- first what is wrong with the recording, then a frame beyond its end, then lent memory that is too short
abbrev pub said_shown : Result Match Fault → ℕ → ℕ → Result Shown Unshown
said_shown (Err f) frame room = Err (Recording f)
said_shown (Ok m) frame room =
    cond (nat_lt (length m.frames) frame) (Err (Beyond (length m.frames)))
    (cond (nat_lt room 19200) (Err Picture)
    (Ok (record { frames = length m.frames; score = (after_frames (take frame m.frames)).score })))

-- the picture of the plain game after that frame, and then what stood there; or all as it was
abbrev pub drawn_over : Result Match Fault → ℕ → List ℕ → List ℕ
drawn_over (Err f) frame picture = picture
drawn_over (Ok m) frame picture =
    cond (nat_lt (length m.frames) frame) picture
    (cond (nat_lt (length picture) 19200) picture (picture_of (after_frames (take frame m.frames)) ++ drop 19200 picture))
