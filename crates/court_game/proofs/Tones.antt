-- The court with its tone: its game is that of the court, and what is heard of it. Assumes nothing.
use Rattle.std.proofs.Common.{◌≡◌, ℕ, ◌+◌, ◌-◌, ◌<◌, ◌≤◌, List, [], ◌∷◌, ◌++◌, length, get_or, take, drop, map, slice_range, ℤ, refl, sym, ap, ◌∙◌, append-nil, arith}
use Rattle.std.proofs.lemmas.List.{append_assoc, drop_all, drop_more}
use Rattle.court.specs.Cues.{cue_of}
use Rattle.sound.specs.Sound.{bytes_of, sample_bytes, sound_after, sound_bytes, frame_samples}
use Rattle.sound.specs.Tones.{tone_after}
use Rattle.game.specs.Plain.{plays, seat_0, seat_1}
use Rattle.court_game.specs.Sounding.{InGame, SoundingCourt, sounding_game, sounding_frame, CourtIsCourtGame}
use Rattle.court_game.specs.Saved.{court_lawful}
use Rattle.court_game.specs.Sounds.{cues_of, TonesAreOfCues}

pub court_is_court_game : CourtIsCourtGame
unfolding plays
court_is_court_game s [] ys = refl
court_is_court_game s (x ∷ xs) [] = refl
court_is_court_game s (x ∷ xs) (y ∷ ys) = court_is_court_game (sounding_frame s x y) xs ys

pub tones_are_of_cues : TonesAreOfCues
unfolding plays cues_of
tones_are_of_cues s [] ys = refl
tones_are_of_cues s (x ∷ xs) [] = refl
tones_are_of_cues s (x ∷ xs) (y ∷ ys) = tones_are_of_cues (sounding_frame s x y) xs ys

-- a game comes to states in the court, with tones that are not over
pub plays_in_game : (s : SoundingCourt) → InGame s → (xs ys : List ℕ) → InGame (plays sounding_game s xs ys)
unfolding plays
plays_in_game s h [] ys = h
plays_in_game s h (x ∷ xs) [] = h
plays_in_game s h (x ∷ xs) (y ∷ ys) = plays_in_game (sounding_frame s x y) (court_lawful.goes_on s x y h) xs ys

-- the game of the part of the frames that is frame i alone
pub one_frame : (s t : SoundingCourt) (fs : List ℕ) (i : ℕ) → i < length fs → t ≡ plays sounding_game s (map seat_0 (slice_range fs i (i + 1))) (map seat_1 (slice_range fs i (i + 1))) → t ≡ sounding_frame s (seat_0 (get_or fs i 0)) (seat_1 (get_or fs i 0))
unfolding plays
one_frame s t fs i h e =
    let f : ℕ = get_or fs i 0 in
    let one : i + 1 - i ≡ 1 = omega arith in
    let part : slice_range fs i (i + 1) ≡ f ∷ [] = ap (λ n. take n (drop i fs)) one ∙ ap (take 1) (drop_more fs i 0 h) in
    e ∙ ap (λ zs. plays sounding_game s (map seat_0 zs) (map seat_1 zs)) part

-- ---- what is heard

bytes_more : (vs ws : List ℤ) → bytes_of (vs ++ ws) ≡ bytes_of vs ++ bytes_of ws
unfolding bytes_of
bytes_more [] ws = refl
bytes_more (v ∷ vs) ws = ap (λ l. sample_bytes v ++ l) (bytes_more vs ws) ∙ sym (append_assoc (sample_bytes v) (bytes_of vs) (bytes_of ws))

-- of a game from a state on
abbrev pub sounds_from : SoundingCourt → List ℕ → List ℕ → List ℕ
sounds_from s xs ys = bytes_of (sound_after s.tone (cues_of s.court xs ys))

frame_more : (s t : SoundingCourt) (x y : ℕ) (xs ys : List ℕ) → t ≡ sounding_frame s x y → sounds_from s (x ∷ xs) (y ∷ ys) ≡ sound_bytes t.tone ++ sounds_from t xs ys
unfolding cues_of
frame_more s t x y xs ys e =
    bytes_more (frame_samples (tone_after s.tone (cue_of s.court x y))) _
    ∙ ap (λ (u : SoundingCourt). sound_bytes u.tone ++ sounds_from u xs ys) (sym e)

-- from frame i on, by frames of one byte
abbrev pub sounds_behind : SoundingCourt → List ℕ → ℕ → List ℕ
sounds_behind s fs i = sounds_from s (map seat_0 (drop i fs)) (map seat_1 (drop i fs))

pub kept_more : (s t : SoundingCourt) (now after fs : List ℕ) (i : ℕ) → i < length fs → t ≡ sounding_frame s (seat_0 (get_or fs i 0)) (seat_1 (get_or fs i 0)) → after ≡ now ++ sound_bytes t.tone → after ++ sounds_behind t fs (i + 1) ≡ now ++ sounds_behind s fs i
kept_more s t now after fs i h e k =
    let f : ℕ = get_or fs i 0 in
    let rest : List ℕ = drop (i + 1) fs in
    let d : drop i fs ≡ f ∷ rest = drop_more fs i 0 h in
    ap (λ zs. zs ++ sounds_behind t fs (i + 1)) k
    ∙ append_assoc now (sound_bytes t.tone) (sounds_behind t fs (i + 1))
    ∙ ap (λ zs. now ++ zs) (sym (frame_more s t (seat_0 f) (seat_1 f) (map seat_0 rest) (map seat_1 rest) e) ∙ ap (λ zs. sounds_from s (map seat_0 zs) (map seat_1 zs)) (sym d))

none_left : (s : SoundingCourt) → sounds_from s [] [] ≡ []
unfolding cues_of bytes_of
none_left s = refl

pub kept_all : (s : SoundingCourt) (now fs : List ℕ) (i : ℕ) → length fs ≤ i → now ++ sounds_behind s fs i ≡ now
kept_all s now fs i h =
    ap (λ zs. now ++ zs) (ap (λ zs. sounds_from s (map seat_0 zs) (map seat_1 zs)) (drop_all i fs h) ∙ none_left s)
    ∙ append-nil now
