-- A sound as a WAV file: one channel, 16 bits a sample. Assumes nothing: these are definitions, and
-- statements that are proved in proofs/.
use Rattle.std.specs.Prelude.{◌≡◌, ℕ, ◌+◌, ◌*◌, List, ◌++◌, codes, length}
use Rattle.std.specs.Int.{w16, w32, to_le_bytes}
use Rattle.court.specs.declared.cue.Cue.{Cue}
use Rattle.sound.specs.Sound.{sample_rate, frame_length, bytes_of, sound_of}

-- numbers in two and in four bytes, the low byte first
abbrev pub two_bytes : ℕ → List ℕ
two_bytes n = to_le_bytes w16 n

abbrev pub four_bytes : ℕ → List ℕ
four_bytes n = to_le_bytes w32 n

-- bytes of the samples of so many frames
abbrev pub data_length : ℕ → ℕ
data_length frames = 2 * frame_length * frames

-- bytes of the file behind its first eight
abbrev pub riff_length : ℕ → ℕ
riff_length frames = 36 + data_length frames

-- the format of the samples
abbrev pub uncompressed : ℕ
uncompressed = 1

abbrev pub channels : ℕ
channels = 1

abbrev pub bytes_a_second : ℕ
bytes_a_second = 2 * sample_rate

abbrev pub bytes_a_sample : ℕ
bytes_a_sample = 2

abbrev pub bits_a_sample : ℕ
bits_a_sample = 16

abbrev pub format_fields : List ℕ
format_fields =
    two_bytes uncompressed ++ two_bytes channels ++ four_bytes sample_rate
    ++ four_bytes bytes_a_second ++ two_bytes bytes_a_sample ++ two_bytes bits_a_sample

-- what stands before the samples; each "fmt " and "data" is followed by its length
abbrev pub wav_header_of : ℕ → List ℕ
wav_header_of frames =
    codes "RIFF" ++ four_bytes (riff_length frames) ++ codes "WAVE"
    ++ codes "fmt " ++ four_bytes 16 ++ format_fields
    ++ codes "data" ++ four_bytes (data_length frames)

-- the file of a whole game's sound
abbrev pub wav_of : List Cue → List ℕ
wav_of cues = wav_header_of (length cues) ++ bytes_of (sound_of cues)

-- ---- what is promised of it

-- the lengths that are told are those of the file
pub record TellsLengths (cues : List Cue) : Type 0 where
  pub header : length (wav_header_of (length cues)) ≡ 44
  pub data_told : length (bytes_of (sound_of cues)) ≡ data_length (length cues)
  pub riff_told : length (wav_of cues) ≡ 8 + riff_length (length cues)

abbrev pub LengthsAreTold : Type 0
LengthsAreTold = (cues : List Cue) → TellsLengths cues
