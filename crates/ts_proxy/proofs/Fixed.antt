-- The configuration of `generate` is read as its lines, one by one.
use Rattle.std.proofs.Common.{◌≡◌, ℕ, ◌+◌, ◌<◌, ◌&&◌, true, List, [], ◌∷◌, codes, Result, Ok, Err, arith}
use Rattle.std.proofs.Common.{refl, ap, ◌∙◌, if◌then◌else◌}
use Rattle.std.specs.List.{list_all}
use Rattle.std.specs.Prelude.{nat_lt}
use Rattle.std.specs.Str.{IsUtf8}
use Rattle.std.proofs.lemmas.Bool.Decides.{nat_tests}
use Rattle.std.proofs.lemmas.Str.{IsUtf8-nil, is_utf8-from_IsUtf8}
use Rattle.ts_config.proofs.TextParts.{both, utf8-cons}
use Rattle.ts_config.specs.Bytes.{letter_a}
use Rattle.ts_config.specs.Reading.{is_text_byte}
use Rattle.ts_config.specs.Setup.{ConfigLines, transforms_alone}
use Rattle.ts_config.specs.Value.{Good, meaning_of, meaning_of_words, next_lines, read_lines, config_of}
use Rattle.ts_config.specs.Value.{words_in}
use Rattle.ts_config.specs.declared.setup.ConfigKind.{ConfigKind}
use Rattle.ts_config.specs.declared.setup.ConfigKind.TheVariants as k
use Rattle.ts_config.specs.declared.setup.LineMeaning.{LineMeaning}
use Rattle.ts_config.specs.declared.setup.LineMeaning.TheVariants.{Transform}
use Rattle.ts_config.specs.declared.setup.TransformLine.TheVariants as t
use Rattle.ts_proxy.specs.Summary.{capital_a, fixed_config, fixed_lines, letter_q}

-- ASCII is UTF-8
small : (b : ℕ) → nat_lt b 128 ≡ true → b < 128
small b is = grind (arith, nat_tests)

ascii-utf8 : (bs : List ℕ) → list_all (λ b. nat_lt b 128) bs ≡ true → IsUtf8 bs
ascii-utf8 [] is = IsUtf8-nil
ascii-utf8 (b ∷ bs) is =
    let parts = both (nat_lt b 128) (list_all (λ c. nat_lt c 128) bs) is in
    utf8-cons b bs (small b parts.0) (ascii-utf8 bs parts.1)

-- a line of ASCII without control characters means what its words mean
means : (line : List ℕ) → list_all (λ b. nat_lt b 128) line ≡ true → list_all is_text_byte line ≡ true
    → meaning_of line ≡ meaning_of_words (words_in line)
means line ascii bytes =
    ap (λ u. if u && list_all is_text_byte line then meaning_of_words (words_in line) else Err k.Text)
    (is_utf8-from_IsUtf8 line (ascii-utf8 line ascii))
    ∙ ap (λ b. if b then meaning_of_words (words_in line) else Err k.Text) bytes

-- a line that means this one, and the lines behind it
line_then : (line : List ℕ) (lines : List (List ℕ)) (n : ℕ) (so_far : ConfigLines)
    (m : Result LineMeaning ConfigKind) → meaning_of line ≡ m
    → read_lines (line ∷ lines) n so_far [] ≡ next_lines m (n + 1) so_far [] (read_lines lines (n + 1))
line_then line lines n so_far m is =
    ap (λ x. next_lines x (n + 1) so_far [] (read_lines lines (n + 1))) is

-- ---- the lines

null_line : meaning_of (codes "null_transform.so") ≡ Ok (Transform t.Null)
null_line = means (codes "null_transform.so") refl refl

map_line : meaning_of (codes "map.so a A") ≡ Ok (Transform (t.Map letter_a capital_a))
map_line = means (codes "map.so a A") refl refl

drop_line : meaning_of (codes "drop.so q") ≡ Ok (Transform (t.Drop letter_q))
drop_line = means (codes "drop.so q") refl refl

bnull_line : meaning_of (codes "bnull_transform.so") ≡ Ok (Transform t.Bnull)
bnull_line = means (codes "bnull_transform.so") refl refl

prepend_line : meaning_of (codes "prepend.so <") ≡ Ok (Transform (t.Prepend (codes "<")))
prepend_line = means (codes "prepend.so <") refl refl

-- the lines from each on
abbrev from_prepend : List (List ℕ)
from_prepend = codes "prepend.so <" ∷ []

abbrev from_bnull : List (List ℕ)
from_bnull = codes "bnull_transform.so" ∷ from_prepend

abbrev from_drop : List (List ℕ)
from_drop = codes "drop.so q" ∷ from_bnull

abbrev from_map : List (List ℕ)
from_map = codes "map.so a A" ∷ from_drop

pub fixed_reading : config_of fixed_config ≡ Good fixed_lines []
fixed_reading =
    line_then (codes "null_transform.so") from_map 0 (transforms_alone []) (Ok (Transform t.Null)) null_line
    ∙ line_then (codes "map.so a A") from_drop 1 (transforms_alone (t.Null ∷ []))
    (Ok (Transform (t.Map letter_a capital_a))) map_line
    ∙ line_then (codes "drop.so q") from_bnull 2 (transforms_alone (t.Null ∷ t.Map letter_a capital_a ∷ []))
    (Ok (Transform (t.Drop letter_q))) drop_line
    ∙ line_then (codes "bnull_transform.so") from_prepend 3
    (transforms_alone (t.Null ∷ t.Map letter_a capital_a ∷ t.Drop letter_q ∷ []))
    (Ok (Transform t.Bnull)) bnull_line
    ∙ line_then (codes "prepend.so <") [] 4
    (transforms_alone (t.Null ∷ t.Map letter_a capital_a ∷ t.Drop letter_q ∷ t.Bnull ∷ []))
    (Ok (Transform (t.Prepend (codes "<")))) prepend_line
