-- The laws on the body data of a response.
use Rattle.std.proofs.Common.{◌≡◌, ℕ, ◌+◌, ◌-◌, ◌<◌, ◌≤◌, Bool, true, false, List, [], ◌∷◌, ◌++◌, length}
use Rattle.std.proofs.Common.{take, drop, ⊎_elim, refl, sym, ap, subst, ◌∙◌, arith, append_assoc}
use Rattle.std.proofs.Common.{length-append, take-append-drop}
use Rattle.std.specs.Prelude.{All, flat_map, if◌then◌else◌}
use Rattle.std.proofs.lemmas.List.{append-nil, take_all, take_at, drop_at, take-append-le, drop-append-le}
use Rattle.httparse.specs.Ascii.{crlf_bytes}
use Rattle.memchr.specs.Find.{OccursAt}
use Rattle.ts_wire.specs.declared.framing.Framing.TheVariants as F
use Rattle.ts_wire.specs.declared.frames.Mode.{Mode}
use Rattle.ts_wire.specs.declared.frames.Mode.TheVariants.{Plain, Chunked}
use Rattle.ts_wire.specs.Blank.{EndsBlank, LacksBlank, blank_end}
use Rattle.ts_wire.specs.Body.{BodyOf}
use Rattle.ts_wire.specs.Frames.{IsPiece, chunk_text, content_in, cut_body, end_of, frame_of, frames, hex}
use Rattle.ts_wire.specs.Limits.{body_limit}
use Rattle.ts_wire.proofs.FrameFronts.{reads_fronts}
use Rattle.ts_wire.proofs.OneBody.{one_body}
use Rattle.ts_tap.specs.SentBody.{HasOneSentBody, IsSentBody, IsSentHead, SaysChunked, SentBodyIsFront}
use Rattle.ts_tap.specs.SentBody.{SentBodyIsWhole, in_head, plain, chunked}
use Rattle.ts_tap.proofs.HeadEnds.{le_or_lt, occurs_in_front, occurs_last, occurs_with_rest}

-- ---- one head

-- a head is no text without an empty line, nor a front of one
pub blank_there : (head rest told : List ℕ) → EndsBlank head → told ≡ head ++ rest → LacksBlank told → ⊥
blank_there head rest told ends is lacks =
    lacks (length ends.front) (subst (λ (l : List ℕ). OccursAt l blank_end (length ends.front))
    (sym (is ∙ ap (λ l. l ++ rest) ends.text_is))
    (occurs_with_rest (ends.front ++ blank_end) rest blank_end (length ends.front)
    (occurs_last ends.front blank_end)))

-- a text has no head that is shorter than another
not_shorter : (a b x y : List ℕ) → EndsBlank a → EndsBlank b → a ++ x ≡ b ++ y → length a < length b → ⊥
not_shorter a b x y ends_a ends_b same less =
    let place = length ends_a.front in
    let long_a : length a ≡ place + length blank_end =
    ap length ends_a.text_is ∙ length-append ends_a.front blank_end in
    let long_b : length b ≡ length ends_b.front + length blank_end =
    ap length ends_b.text_is ∙ length-append ends_b.front blank_end in
    let in_a : OccursAt a blank_end place =
    subst (λ (l : List ℕ). OccursAt l blank_end place) (sym ends_a.text_is)
    (occurs_last ends_a.front blank_end) in
    let in_both : OccursAt (b ++ y) blank_end place =
    subst (λ (l : List ℕ). OccursAt l blank_end place) same (occurs_with_rest a x blank_end place in_a) in
    let in_b = occurs_in_front b y blank_end place (omega (arith, long_a, less)) in_both in
    let at = ends_b.once place in_b in
    omega (arith, at, long_a, long_b, less)

-- two lists of one length in front of the same are the same
same_fronts : (a b x y : List ℕ) → a ++ x ≡ b ++ y → length a ≡ length b → (a ≡ b) × (x ≡ y)
same_fronts a b x y same long = (
  sym (take_at a x (length b) long) ∙ ap (take (length b)) same ∙ take_at b y (length b) refl,
  sym (drop_at a x (length b) long) ∙ ap (drop (length b)) same ∙ drop_at b y (length b) refl,
)

-- so a text has one head, and one rest behind it
pub one_head : (a b x y : List ℕ) → EndsBlank a → EndsBlank b → a ++ x ≡ b ++ y → (a ≡ b) × (x ≡ y)
one_head a b x y ends_a ends_b same =
    ⊎_elim
    (λ (le : length a ≤ length b). ⊎_elim
    (λ (ge : length b ≤ length a). same_fronts a b x y same (omega (arith, le, ge)))
    (λ (less : length a < length b). absurd (not_shorter a b x y ends_a ends_b same less))
    (le_or_lt (length b) (length a)))
    (λ (less : length b < length a). absurd (not_shorter b a y x ends_b ends_a (sym same) less))
    (le_or_lt (length a) (length b))

-- ---- one body

pub one_sent_body : HasOneSentBody
one_sent_body told a b (in_head lacks none) (in_head lacks' none') = none ∙ sym none'
one_sent_body told a b (in_head lacks none) (plain head ends says is) =
    absurd (blank_there head b told ends is lacks)
one_sent_body told a b (in_head lacks none) (chunked head rest state ends says is body) =
    absurd (blank_there head rest told ends is lacks)
one_sent_body told a b (plain head ends says is) (in_head lacks none) =
    absurd (blank_there head a told ends is lacks)
one_sent_body told a b (plain head ends says is) (plain head' ends' says' is') =
    (one_head head head' a b ends ends' (sym is ∙ is')).1
one_sent_body told a b (plain head ends says is) (chunked head' rest state ends' says' is' body) =
    let same = one_head head head' a rest ends ends' (sym is ∙ is') in
    absurd (says (subst SaysChunked (sym same.0) says'))
one_sent_body told a b (chunked head rest state ends says is body) (in_head lacks none) =
    absurd (blank_there head rest told ends is lacks)
one_sent_body told a b (chunked head rest state ends says is body) (plain head' ends' says' is') =
    let same = one_head head head' rest b ends ends' (sym is ∙ is') in
    absurd (says' (subst SaysChunked same.0 says))
one_sent_body told a b (chunked head rest state ends says is body)
    (chunked head' rest' state' ends' says' is' body') =
    let same = one_head head head' rest rest' ends ends' (sym is ∙ is') in
    (one_body F.Chunked rest a b state state' body
    (subst (λ (l : List ℕ). BodyOf F.Chunked l b state') (sym same.1) body')).0

-- ---- the body of a front of what is sent

-- a front of a head has no empty line
front_lacks : (head told more : List ℕ) → EndsBlank head → told ++ more ≡ head → length told < length head
    → LacksBlank told
front_lacks head told more ends is less place occurs =
    let at = ends.once place (subst (λ (l : List ℕ). OccursAt l blank_end place) is
    (occurs_with_rest told more blank_end place occurs)) in
    let long : length head ≡ length ends.front + length blank_end =
    ap length ends.text_is ∙ length-append ends.front blank_end in
    omega (arith, at, long, less, occurs.fits)

-- no bytes of the pieces stand in no bytes of their frames
none_in : (mode : Mode) (pieces : List (List ℕ)) → content_in mode pieces 0 ≡ []
none_in Plain pieces = refl
none_in Chunked [] = refl
none_in Chunked (p ∷ ps) =
    let a : 0 - (length (hex (length p)) + length crlf_bytes) ≡ 0 = omega arith in
    let b : 0 - length (chunk_text p) ≡ 0 = omega arith in
    (λ i. take (a i) p ++ content_in Chunked ps (b i)) ∙ none_in Chunked ps

-- the body of what follows a head
behind_head : (mode : Mode) (head told rest more body : List ℕ) (pieces : List (List ℕ))
    → IsSentHead mode head → All IsPiece pieces → length (cut_body pieces) ≤ body_limit → told ≡ head ++ rest
    → rest ++ more ≡ frames mode pieces true → IsSentBody told body
    → body ≡ content_in mode pieces (length rest)
behind_head mode head told rest more body pieces sent all fits is whole (in_head lacks none) =
    absurd (blank_there head rest told sent.ends is lacks)
behind_head Plain head told rest more body pieces sent all fits is whole (plain head' ends says is') =
    let same = one_head head' head body rest ends sent.ends (sym is' ∙ is) in
    let text : rest ++ more ≡ cut_body pieces = whole ∙ append-nil (cut_body pieces) in
    same.1 ∙ sym (take_at rest more (length rest) refl) ∙ ap (take (length rest)) text
behind_head Chunked head told rest more body pieces sent all fits is whole (plain head' ends says is') =
    let same = one_head head' head body rest ends sent.ends (sym is' ∙ is) in
    absurd (says (subst SaysChunked (sym same.0) sent.says))
behind_head Plain head told rest more body pieces sent all fits is whole
    (chunked head' rest' state ends says is' body_of) =
    let same = one_head head' head rest' rest ends sent.ends (sym is' ∙ is) in
    absurd (sent.says (subst SaysChunked same.0 says))
behind_head Chunked head told rest more body pieces sent all fits is whole
    (chunked head' rest' state ends says is' body_of) =
    let same = one_head head' head rest' rest ends sent.ends (sym is' ∙ is) in
    reads_fronts pieces rest more body state all fits whole
    (subst (λ (l : List ℕ). BodyOf F.Chunked l body state) same.1 body_of)

pub sent_body_front : SentBodyIsFront
sent_body_front mode head told more body pieces sent all fits is sent_body =
    ⊎_elim
    (λ (le : length head ≤ length told). behind le)
    (λ (less : length told < length head). within less)
    (le_or_lt (length head) (length told))
  where
    behind : length head ≤ length told → body ≡ content_in mode pieces (length told - length head)
    behind le =
        let rest = drop (length head) told in
        let head_is : take (length head) told ≡ head =
        sym (take-append-le (length head) told more le) ∙ ap (take (length head)) is
        ∙ take_at head (frames mode pieces true) (length head) refl in
        let told_is : told ≡ head ++ rest =
        sym (take-append-drop (length head) told) ∙ ap (λ l. l ++ rest) head_is in
        let rest_is : rest ++ more ≡ frames mode pieces true =
        sym (drop-append-le (length head) told more le) ∙ ap (drop (length head)) is
        ∙ drop_at head (frames mode pieces true) (length head) refl in
        let long : length rest ≡ length told - length head =
        omega (arith, ap length told_is, length-append head rest) in
        behind_head mode head told rest more body pieces sent all fits told_is rest_is sent_body
        ∙ ap (content_in mode pieces) long

    within : length told < length head → body ≡ content_in mode pieces (length told - length head)
    within less =
        let rest = drop (length told) head in
        let told_is : take (length told) head ≡ told =
        sym (take-append-le (length told) head (frames mode pieces true) (omega (arith, less)))
        ∙ ap (take (length told)) (sym is) ∙ take_at told more (length told) refl in
        let head_is : told ++ rest ≡ head =
        ap (λ l. l ++ rest) (sym told_is) ∙ take-append-drop (length told) head in
        let none : length told - length head ≡ 0 = omega (arith, less) in
        one_sent_body told body [] sent_body
        (in_head (front_lacks head told rest sent.ends head_is less) refl)
        ∙ sym (none_in mode pieces) ∙ ap (content_in mode pieces) (sym none)

-- ---- the whole

-- all bytes of the pieces stand in their frames
all_in : (mode : Mode) (pieces : List (List ℕ)) (n : ℕ) → length (flat_map (frame_of mode) pieces) ≤ n
    → content_in mode pieces n ≡ cut_body pieces
all_in Plain pieces n long = take_all n (cut_body pieces) long
all_in Chunked [] n long = refl
all_in Chunked (p ∷ ps) n long =
    let sums = length-append (chunk_text p) (flat_map (frame_of Chunked) ps) in
    let line = length-append (hex (length p)) (crlf_bytes ++ (p ++ crlf_bytes)) in
    let ends = length-append crlf_bytes (p ++ crlf_bytes) in
    let piece = length-append p crlf_bytes in
    let a : take (n - (length (hex (length p)) + length crlf_bytes)) p ≡ p =
    take_all (n - (length (hex (length p)) + length crlf_bytes)) p
    (omega (arith, long, sums, line, ends, piece)) in
    let b : content_in Chunked ps (n - length (chunk_text p)) ≡ cut_body ps =
    all_in Chunked ps (n - length (chunk_text p)) (omega (arith, long, sums)) in
    (λ i. a i ++ b i)

-- what is there of the frames is a front of all of them
ending : (mode : Mode) (fin : Bool) (pieces : List (List ℕ))
    → (more : List ℕ) × (frames mode pieces fin ++ more ≡ frames mode pieces true)
ending mode true pieces = ([], append-nil (frames mode pieces true))
ending mode false pieces =
    (end_of mode, ap (λ l. l ++ end_of mode) (append-nil (flat_map (frame_of mode) pieces)))

pub sent_body_whole : SentBodyIsWhole
sent_body_whole mode fin head body pieces sent all fits sent_body =
    let text = frames mode pieces fin in
    let behind = ending mode fin pieces in
    let whole : (head ++ text) ++ behind.0 ≡ head ++ frames mode pieces true =
    append_assoc head text behind.0 ∙ ap (λ l. head ++ l) behind.1 in
    let long : length text ≡ length (head ++ text) - length head =
    omega (arith, length-append head text) in
    sent_body_front mode head (head ++ text) behind.0 body pieces sent all fits whole sent_body
    ∙ ap (content_in mode pieces) (sym long)
    ∙ all_in mode pieces (length text)
    (omega (arith, length-append (flat_map (frame_of mode) pieces) (if fin then end_of mode else [])))
