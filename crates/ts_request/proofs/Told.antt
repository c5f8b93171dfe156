-- What a carrier tells as taken: the head as it was written, and behind it all that its upload wrote.
use Rattle.std.proofs.Common.{◌≡◌, ℕ, ◌+◌, ◌-◌, List, ◌++◌, length, take, drop, Bool, true, false, refl, sym}
use Rattle.std.proofs.Common.{ap, ◌∙◌, arith, append_assoc, length-append}
use Rattle.std.specs.Prelude.{if◌then◌else◌}
use Rattle.std.proofs.lemmas.List.{take_at, drop_at, length-take, take-append-drop}
use Rattle.httparse.specs.Ascii.{crlf_bytes}
use Rattle.ts_wire.specs.Printed.{framing_line, with_framing}
use Rattle.ts_wire.specs.declared.printed.ClientFraming.{ClientFraming}
use Rattle.ts_request.specs.Carrying.{behind_head, line_place, without_line}
use Rattle.ts_request.specs.declared.carrier.HeadState.TheVariants as H

-- bytes in the middle are passed over
pub middle_out : (a l b : List ℕ) (at line : ℕ) → length a ≡ at → length l ≡ line
    → take at ((a ++ l) ++ b) ++ drop (at + line) ((a ++ l) ++ b) ≡ a ++ b
middle_out a l b at line first more =
    let both : length (a ++ l) ≡ at + line = omega (arith, length-append a l, first, more) in
    ap (λ xs. take at xs ++ drop (at + line) ((a ++ l) ++ b)) (append_assoc a l b)
    ∙ ap (λ xs. xs ++ drop (at + line) ((a ++ l) ++ b)) (take_at a (l ++ b) at first)
    ∙ ap (λ xs. a ++ xs) (drop_at (a ++ l) b (at + line) both)

-- the head stands in front of what is told, whatever stands behind it
abbrev pub Unlines : ℕ → ℕ → (List ℕ → List ℕ) → Type 0
Unlines len line sent = (head behind : List ℕ) → length head ≡ len
    → without_line (H.Sent len line) (sent head ++ behind) ≡ head ++ behind

-- with no line
pub unlines_plain : (len line : ℕ) → line ≡ 0 → Unlines len line (λ head. head)
unlines_plain len line none head behind long =
    let at : line_place len + line ≡ line_place len = omega (arith, none) in
    ap (λ n. take (line_place len) (head ++ behind) ++ drop n (head ++ behind)) at
    ∙ take-append-drop (line_place len) (head ++ behind)

-- and with one
pub unlines_framed : (len line : ℕ) (said : ClientFraming) → line ≡ length (framing_line said)
    → Unlines len line (λ head. with_framing head said)
unlines_framed len line said is head behind long =
    let front = length head - length crlf_bytes in
    let at : line_place len ≡ front = ap (λ n. n - length crlf_bytes) (sym long) in
    let short : length (take front head) ≡ front = omega (arith, length-take front head) in
    ap (λ n. take n (with_framing head said ++ behind)
    ++ drop (n + line) (with_framing head said ++ behind)) at
    ∙ ap (λ xs. take front xs ++ drop (front + line) xs)
    (append_assoc (take front head ++ framing_line said) (drop front head) behind)
    ∙ middle_out (take front head) (framing_line said) (drop front head ++ behind) front line short (sym is)
    ∙ sym (append_assoc (take front head) (drop front head) behind)
    ∙ ap (λ xs. xs ++ behind) (take-append-drop front head)

-- what was told behind the head
pub behind_told : (len line : ℕ) (sent : List ℕ → List ℕ) (own head behind : List ℕ) → Unlines len line sent
    → length head ≡ len → behind_head (H.Sent len line) own (sent head ++ behind) ≡ behind
behind_told len line sent own head behind unlines long =
    ap (drop len) (unlines head behind long) ∙ drop_at head behind len long

module _ (len line : ℕ) (sent : List ℕ → List ℕ) (own own' head behind more all all' : List ℕ)
    (unlines : Unlines len line sent) (long : length head ≡ len) (is : all ≡ sent head ++ behind)
    (grows : all' ≡ all ++ more) where
  all_grown : all' ≡ sent head ++ (behind ++ more)
  all_grown = grows ∙ ap (λ xs. xs ++ more) is ∙ append_assoc (sent head) behind more

  -- more is told where more was sent or waits
  pub taken_grown : without_line (H.Sent len line) all' ≡ without_line (H.Sent len line) all ++ more
  taken_grown =
      ap (without_line (H.Sent len line)) all_grown ∙ unlines head (behind ++ more) long
      ∙ sym (append_assoc head behind more)
      ∙ ap (λ xs. xs ++ more) (sym (unlines head behind long) ∙ sym (ap (without_line (H.Sent len line)) is))

  pub carried_grown :
      behind_head (H.Sent len line) own' all' ≡ behind_head (H.Sent len line) own all ++ more
  carried_grown =
      ap (behind_head (H.Sent len line) own') all_grown
      ∙ behind_told len line sent own' head (behind ++ more) unlines long
      ∙ ap (λ xs. xs ++ more) (sym (behind_told len line sent own head behind unlines long)
      ∙ sym (ap (behind_head (H.Sent len line) own) is))

-- a value that is told, where it is
pub told_is : {A : Type 0} (t : Bool) (x y : A) → t ≡ true → (if t then x else y) ≡ x
told_is true x y told = refl
told_is false x y told = absurd (let wrong : false ≡ true = told in cc)
