-- Where bytes stop being a recording: behind the longest of their fronts that some recording begins with.
use Rattle.std.specs.Prelude.{ℕ, ◌≤◌, ◌<◌, List, ◌++◌, length, take, ⊤}
use Rattle.ts_record.specs.Grammar.{Contents, IsRecording}
use Rattle.ts_record.specs.declared.recording.RecordingRefusal.{RecordingRefusal}
use Rattle.ts_record.specs.declared.recording.RecordingRefusal.TheVariants as r

-- some recording begins with these bytes
abbrev pub BeginsSome : List ℕ → Type 0
BeginsSome front = (contents : Contents) × (behind : List ℕ) × IsRecording (front ++ behind) contents

-- the bytes are no recording, and the longest of their fronts that some recording begins with has this length
pub record IsRefusedAt (bytes : List ℕ) (offset : ℕ) : Type 0 where
  pub within : offset ≤ length bytes
  pub begun : BeginsSome (take offset bytes)
  pub longest : (n : ℕ) → offset < n → n ≤ length bytes → BeginsSome (take n bytes) → ⊥
  pub refused : (contents : Contents) → IsRecording bytes contents → ⊥

-- want of memory says nothing of the bytes
abbrev pub RefusesAt : List ℕ → RecordingRefusal → Type 0
RefusesAt bytes (r.Fault offset) = IsRefusedAt bytes offset
RefusesAt bytes r.NoMemory = ⊤
