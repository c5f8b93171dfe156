-- How a reader follows a body in chunks, step by step.
use Rattle.std.proofs.Common.{◌≡◌, ℕ, ◌+◌, ◌<◌, ◌≤◌, ⊎_elim, List, [], ◌++◌, length, take, drop, refl, sym}
use Rattle.std.proofs.Common.{ap, subst, ◌∙◌, arith}
use Rattle.std.proofs.Common.{None, append_assoc, length-append, take-append-drop}
use Rattle.std.specs.Char.{is_ascii_hexdigit}
use Rattle.std.specs.Prelude.{◌≢◌, IsTrue, codes}
use Rattle.std.proofs.lemmas.List.Elements.{All-nil}
use Rattle.std.proofs.lemmas.List.Sums.{AllPass-from_list_all}
use Rattle.httparse.specs.Ascii.{crlf_bytes}
use Rattle.httparse.specs.Grammar.{ChunkLine, IsField, crlf, is_ows, print_chunk_line}
use Rattle.std.proofs.lemmas.List.{append-nil, take_all}
use Rattle.ts_wire.proofs.OneBody.{one_body}
use Rattle.ts_wire.proofs.PlaceBody.{place_body}
use Rattle.ts_wire.specs.Body.{IsChunk, IsEndedChunked, IsShortLine, print_chunks}
use Rattle.ts_wire.specs.Place.{GivesBody, GoesOn, IsFed, Place, StandsIn, TakesBytes, state_of}
use Rattle.ts_wire.specs.declared.body.Fed.{Fed}
use Rattle.ts_wire.specs.declared.body.BodyState.{BodyState}
use Rattle.ts_wire.specs.declared.body.BodyState.TheVariants as B
use Rattle.ts_wire.specs.declared.ends.RequestEnd.TheVariants as E
use Rattle.ts_wire.specs.declared.framing.Framing.TheVariants as F
use Rattle.ts_wire.specs.declared.phases.BodyPhase.{BodyPhase}
use Rattle.ts_wire.specs.declared.phases.BodyPhase.TheVariants as P
use Rattle.ts_session.specs.Chunks.{IsAmid}
use Rattle.ts_session.specs.ChunksEnd.{chunks_end}
use Rattle.ts_session.specs.Requests.{IsBodyBy}
use Rattle.ts_session.proofs.ChunksEnd.{finds_chunks_end, line_some}
use Rattle.ts_session.proofs.Parts.{take_on}

-- so many of the bytes were fed to a reader that stood there, and the body goes on
abbrev pub HasFollowed : Place → ℕ → List ℕ → Place → Type 0
HasFollowed start at bytes reader = (front : List ℕ) → IsAmid front start → IsAmid (front ++ take at bytes) reader

pub followed_none : (start : Place) (bytes : List ℕ) → HasFollowed start 0 bytes start
followed_none start bytes front amid = subst (λ t. IsAmid t start) (sym (append-nil front)) amid

-- an answer that the body goes on says that it did
pub was_unfinished : (old answer : BodyState) → (old ≢ B.Unfinished → answer ≡ old) → answer ≡ B.Unfinished
    → old ≡ B.Unfinished
was_unfinished B.Unfinished answer stays on = refl
was_unfinished B.Ended answer stays on =
    let wrong : B.Unfinished ≡ B.Ended = sym on ∙ stays (λ e. let no : B.Ended ≡ B.Unfinished = e in cc) in
    absurd (cc)
was_unfinished B.Bad answer stays on =
    let wrong : B.Unfinished ≡ B.Bad = sym on ∙ stays (λ e. let no : B.Bad ≡ B.Unfinished = e in cc) in
    absurd (cc)

-- a step takes some bytes, where the body goes on
pub feeds_some : (old new : Place) (bytes : List ℕ) (fed : Fed) → TakesBytes old new bytes fed
    → (state_of old.phase ≢ B.Unfinished → fed.state ≡ state_of old.phase) → fed.state ≡ B.Unfinished
    → 0 < length bytes → 0 < fed.taken
feeds_some old new bytes fed takes stays on some =
    ⊎_elim
    (λ (more : 0 < fed.taken). more)
    (λ (over : fed.state ≢ B.Unfinished). absurd (over on))
    (takes.progress some (was_unfinished (state_of old.phase) fed.state stays on))

-- all were fed
pub followed_all : (start reader : Place) (bytes : List ℕ) (at : ℕ) → HasFollowed start at bytes reader
    → length bytes ≤ at → (front : List ℕ) → IsAmid front start → IsAmid (front ++ bytes) reader
followed_all start reader bytes at so all front amid =
    subst (λ t. IsAmid (front ++ t) reader) (take_all at bytes all) (so front amid)

-- a body that ended at its last byte
ended_stands : (fed body held : List ℕ) (phase : BodyPhase) → state_of phase ≡ B.Ended
    → StandsIn F.Chunked fed body held phase → IsBodyBy E.Chunked fed
ended_stands fed body held (P.Counted left) is stands = absurd (cc)
ended_stands fed body held P.Open is stands = absurd (cc)
ended_stands fed body held P.Line is stands = absurd (cc)
ended_stands fed body held (P.Content left) is stands = absurd (cc)
ended_stands fed body held P.Gap is stands = absurd (cc)
ended_stands fed body held P.GapEnd is stands = absurd (cc)
ended_stands fed body held P.Trailer is stands = absurd (cc)
ended_stands fed body held P.Ended is (ended, over) = (body, ended, over)
ended_stands fed body held P.Bad is stands = absurd (cc)

module _ (start old new : Place) (bytes given : List ℕ) (at n : ℕ) (so : HasFollowed start at bytes old)
    (goes : GoesOn old new (take n (drop at bytes)) given) where
  -- what was fed by now
  fed_is : (front : List ℕ) → (front ++ take at bytes) ++ take n (drop at bytes) ≡ front ++ take (at + n) bytes
  fed_is front =
      append_assoc front (take at bytes) (take n (drop at bytes)) ∙ ap (λ t. front ++ t) (take_on at n bytes)

  pub followed_on : state_of new.phase ≡ B.Unfinished → HasFollowed start (at + n) bytes new
  followed_on unfinished front amid =
      let a = so front amid in
      subst (λ t. IsAmid t new) (fed_is front) (record {
        body = a.body ++ given;
        fed = goes F.Chunked (front ++ take at bytes) a.body a.fed;
        unfinished = unfinished;
      })

  pub followed_end : state_of new.phase ≡ B.Ended → (front : List ℕ) → IsAmid front start
      → IsBodyBy E.Chunked (front ++ take (at + n) bytes)
  followed_end ended front amid =
      let a = so front amid in
      let now = goes F.Chunked (front ++ take at bytes) a.body a.fed in
      subst (IsBodyBy E.Chunked) (fed_is front)
      (ended_stands ((front ++ take at bytes) ++ take n (drop at bytes)) (a.body ++ given) new.held new.phase ended
      now.stands)

  pub followed_never : GivesBody old (take n (drop at bytes)) given B.Bad → (front : List ℕ) → IsAmid front start
      → (more : List ℕ) → chunks_end ((front ++ bytes) ++ more) ≡ None
  followed_never gives front amid more =
      let a = so front amid in
      let rest : List ℕ = drop (at + n) bytes ++ more in
      let bad = gives F.Chunked (front ++ take at bytes) a.body rest a.fed
      (λ wrong. let no : B.Bad ≡ B.Unfinished = wrong in absurd (cc)) in
      let all : ((front ++ take at bytes) ++ take n (drop at bytes)) ++ rest ≡ (front ++ bytes) ++ more =
      ap (λ t. t ++ rest) (fed_is front)
      ∙ sym (append_assoc (front ++ take (at + n) bytes) (drop (at + n) bytes) more)
      ∙ ap (λ t. t ++ more) (append_assoc front (take (at + n) bytes) (drop (at + n) bytes)
      ∙ ap (λ t. front ++ t) (take-append-drop (at + n) bytes)) in
      ap chunks_end (sym all)
      ∙ finds_chunks_end.never (((front ++ take at bytes) ++ take n (drop at bytes)) ++ rest) (a.body ++ given) bad

-- ---- a reader that was fed nothing

-- a last chunk and no fields
abbrev short_line : ChunkLine
short_line = record { digits = codes "0"; pad = []; extension = None }

short_good : IsShortLine short_line
unfolding print_chunk_line
short_good = record {
  line = record {
    digits = (omega arith, omega arith, AllPass-from_list_all is_ascii_hexdigit (codes "0") refl);
    pad = All-nil (λ b. IsTrue (is_ows b));
    extension = tt;
  };
  short = omega arith;
}

short_ended : IsEndedChunked (print_chunk_line short_line ++ crlf_bytes) []
short_ended = record {
  text = crlf_bytes;
  trailer = record {
    line = short_line;
    good = short_good;
    after = record { chunks = []; good = All-nil IsChunk; text = refl; content = refl; fits = omega arith };
    zero = refl;
  };
  fields = [];
  last = crlf;
  rest = [];
  reads = (All-nil IsField, refl);
  few = omega arith;
  short = omega arith;
}

pub first_amid : (reader : Place) → IsFed F.Chunked [] [] reader → IsAmid [] reader
first_amid reader fed = record {
  body = [];
  fed = fed;
  unfinished = by_state (state_of reader.phase) refl;
}
  where
    -- what is fed to it then
    later : List ℕ
    later = print_chunk_line short_line ++ crlf_bytes

    by_state : (x : BodyState) → state_of reader.phase ≡ x → x ≡ B.Unfinished
    by_state B.Unfinished is = refl
    by_state B.Ended is =
        let e = ended_stands [] [] reader.held reader.phase is fed.stands in
        let t = e.1.trailer in
        absurd (omega (
          arith,
          ap length t.after.text,
          line_some t.line t.good.line,
          length-append (print_chunks t.after.chunks) (print_chunk_line t.line ++ e.1.text),
          length-append (print_chunk_line t.line) e.1.text,
        ))
    by_state B.Bad is =
        let stays = place_body F.Chunked [] [] reader.held reader.phase reader.total fed.stands fed.counted fed.sound
        later (λ on. let wrong : B.Bad ≡ B.Unfinished = sym is ∙ on in absurd (cc)) in
        let same = (one_body F.Chunked later [] [] (state_of reader.phase) B.Ended stays short_ended).1 in
        let wrong : B.Bad ≡ B.Ended = sym is ∙ same in
        absurd (cc)
