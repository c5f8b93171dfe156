-- Empty lines ahead of a head: they are counted byte by byte, and no head is in them.
use Rattle.std.proofs.Common.{◌≡◌, ◌∙◌, ◌≤◌, ◌<◌, ◌+◌, ◌++◌, ◌&&◌, ℕ, Bool, true, false, List, [], ◌∷◌}
use Rattle.std.proofs.Common.{ap, arith, get_or, length, refl, subst, sym, take}
use Rattle.std.specs.List.{list_all}
use Rattle.std.proofs.lemmas.List.{length-take, take-append-le, take-take}
use Rattle.std.proofs.lemmas.List.Folds.{list_all-append, list_all_more}
use Rattle.httparse.specs.Ascii.{space}
use Rattle.httparse.specs.Grammar.{HasNoRequest, RequestHead, print_blank, print_end, print_request}
use Rattle.httparse.specs.Grammar.{print_section, print_version}
use Rattle.ts_request.specs.Lines.{AreBlank, is_end_byte}

-- ---- they are counted

-- one byte more is of them
pub blank_more : (room : List ℕ) (len : ℕ) → len < length room → AreBlank (take len room)
    → is_end_byte (get_or room len 0) ≡ true → AreBlank (take (len + 1) room)
blank_more room len within blank more =
    list_all_more is_end_byte room len 0 within ∙ ap (λ t. t && is_end_byte (get_or room len 0)) blank ∙ more

-- empty lines that are held stay where more of their room is begun
pub blank_begun : (room begun : List ℕ) (kept len : ℕ) → len ≤ kept → take kept begun ≡ take kept room
    → AreBlank (take len room) → AreBlank (take len begun)
blank_begun room begun kept len before same blank =
    subst AreBlank (sym (take-take len kept room before) ∙ ap (take len) (sym same) ∙ take-take len kept begun before)
    blank

-- what is put behind the bytes that are held leaves them
pub blank_stays : (room into : List ℕ) (kept len : ℕ) → len ≤ kept → kept ≤ length room
    → AreBlank (take len room) → AreBlank (take len (take kept room ++ into))
blank_stays room into kept len before within blank =
    let long : len ≤ length (take kept room) = omega (arith, before, within, length-take kept room) in
    let same : take len (take kept room ++ into) ≡ take len room =
    take-append-le len (take kept room) into long ∙ take-take len kept room before in
    subst AreBlank (sym same) blank

-- ---- no head is in them

second_and : (a b : Bool) → b ≡ false → (a && b) ≡ false
second_and true b is = is
second_and false b is = refl

-- a space is none of their bytes
space_other : (front more : List ℕ) → list_all is_end_byte (front ++ space ∷ more) ≡ false
space_other [] more = refl
space_other (f ∷ front) more =
    second_and (is_end_byte f) (list_all is_end_byte (front ++ space ∷ more)) (space_other front more)

-- nor is anything with more behind it
still_other : (bytes more : List ℕ) → list_all is_end_byte bytes ≡ false
    → list_all is_end_byte (bytes ++ more) ≡ false
still_other bytes more other =
    list_all-append is_end_byte bytes more ∙ ap (λ t. t && list_all is_end_byte more) other

-- a head has a space behind its method
head_other : (h : RequestHead) (rest : List ℕ) → list_all is_end_byte (print_request h ++ rest) ≡ false
unfolding print_request
head_other h rest =
    let targeted : List ℕ = print_blank h.blank ++ h.method ++ space ∷ h.target in
    let versioned : List ℕ = targeted ++ space ∷ print_version h.minor in
    let line : List ℕ = versioned ++ print_end h.line_end in
    still_other (line ++ print_section h.fields h.last) rest
    (still_other line (print_section h.fields h.last)
    (still_other versioned (print_end h.line_end)
    (still_other targeted (space ∷ print_version h.minor)
    (space_other (print_blank h.blank ++ h.method) h.target))))

pub blank_none : (bytes : List ℕ) → AreBlank bytes → HasNoRequest bytes
blank_none bytes blank h rest reads =
    let wrong : true ≡ false = sym blank ∙ ap (list_all is_end_byte) reads.1 ∙ head_other h rest in
    absurd (cc)
