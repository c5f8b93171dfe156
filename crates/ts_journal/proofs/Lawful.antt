-- Journals put together and taken apart.
use Rattle.std.proofs.Common.{◌≡◌, List, [], ◌∷◌, ◌++◌, refl}
use Rattle.ts_journal.specs.declared.entry.Entry.{Entry}
use Rattle.ts_journal.specs.State.{State}
use Rattle.ts_journal.specs.Machine.{Allowed, after, IsLawful, replay}

pub replay-append : (s : State) (es fs : List Entry) → replay s (es ++ fs) ≡ replay (replay s es) fs
replay-append s [] fs = refl
replay-append s (e ∷ es) fs = replay-append (after s e) es fs

pub lawful_append : (s : State) (es fs : List Entry) → IsLawful s es → IsLawful (replay s es) fs
    → IsLawful s (es ++ fs)
lawful_append s [] fs h k = k
lawful_append s (e ∷ es) fs (a, b) k = (a, lawful_append (after s e) es fs b k)

pub lawful_front : (s : State) (es fs : List Entry) → IsLawful s (es ++ fs) → IsLawful s es
lawful_front s [] fs h = tt
lawful_front s (e ∷ es) fs (a, b) = (a, lawful_front (after s e) es fs b)

pub lawful_back : (s : State) (es fs : List Entry) → IsLawful s (es ++ fs) → IsLawful (replay s es) fs
lawful_back s [] fs h = h
lawful_back s (e ∷ es) fs (a, b) = lawful_back (after s e) es fs b

-- one entry more
pub lawful_push : (s : State) (es : List Entry) (e : Entry) → IsLawful s es → Allowed (replay s es) e
    → IsLawful s (es ++ e ∷ [])
lawful_push s es e h a = lawful_append s es (e ∷ []) h (a, tt)
