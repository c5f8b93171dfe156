-- One byte further on, what was written and what is still to be written are the same text.
use Rattle.std.proofs.Common.{◌≡◌, ℕ, ◌+◌, ◌<◌, ◌==◌, ◌++◌, List, Bool, length, get_or, drop, sym, ap, ◌∙◌, append_assoc}
use Rattle.std.proofs.lemmas.List.{drop_more}
use Rattle.ts_quote.specs.Quoting.{marked, marked_byte}

-- the byte at a place of the piece is written, and the bytes behind it are still to come
pub quoted_step : (mark done piece z : List ℕ) (begins : Bool) (at : ℕ) → at < length piece
    → done ++ marked mark begins (drop at piece ++ z)
    ≡ (done ++ marked_byte mark begins (get_or piece at 0))
    ++ marked mark (get_or piece at 0 == 10) (drop (at + 1) piece ++ z)
quoted_step mark done piece z begins at within =
    let byte = get_or piece at 0 in
    ap (λ t. done ++ marked mark begins (t ++ z)) (drop_more piece at 0 within)
    ∙ sym (append_assoc done (marked_byte mark begins byte)
    (marked mark (byte == 10) (drop (at + 1) piece ++ z)))
