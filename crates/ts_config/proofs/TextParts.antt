-- Parts of a text are texts, if ASCII stands between them, and texts behind one another are a text.
use Rattle.std.proofs.Common.{◌≡◌, ℕ, zero, suc, ◌<◌, List, [], ◌∷◌, ◌++◌, length, get_or, Bool, true, false, ◌&&◌, refl, ap, sym, ◌∙◌, subst, arith, length-append}
use Rattle.std.specs.Prelude.{nat_lt}
use Rattle.std.specs.List.{list_all}
use Rattle.std.specs.Str.{IsUtf8, is_utf8, IsCharBoundary}
use Rattle.std.proofs.Math.Seq.{take-append_seam, drop-append_seam}
use Rattle.std.proofs.lemmas.List.Folds.{list_all-append}
use Rattle.std.proofs.lemmas.Bool.Decides.{nat_tests}
use Rattle.std.proofs.lemmas.Str.{IsUtf8-take, IsUtf8-drop, IsUtf8-append, IsUtf8-nil, IsUtf8-from_ascii, IsCharBoundary-before_ascii, IsCharBoundary-after_ascii, IsUtf8-from_is_utf8}
use Rattle.ts_config.specs.Reading.{is_text, is_text_byte}
use Rattle.ts_config.proofs.Texts.{utf8_yes}

pub both : (a b : Bool) → (a && b) ≡ true → (a ≡ true) × (b ≡ true)
both true true is = (refl, refl)
both true false is = absurd (let wrong : false ≡ true = is in cc)
both false b is = absurd (let wrong : false ≡ true = is in cc)

pub together : (a b : Bool) → a ≡ true → b ≡ true → (a && b) ≡ true
together a b first second = ap (λ x. x && b) first ∙ second

-- UTF-8, cut before an ASCII byte
module _ (front : List ℕ) (b : ℕ) (back : List ℕ) (small : b < 128) (is : IsUtf8 (front ++ b ∷ back)) where
  seam : IsCharBoundary (front ++ b ∷ back) (length front)
  seam =
      let at : get_or (front ++ b ∷ back) (length front) 0 ≡ b = byte_at front in
      IsCharBoundary-before_ascii (front ++ b ∷ back) (length front)
      (omega (arith, length-append front (b ∷ back))) (omega (arith, at))
    where
      byte_at : (xs : List ℕ) → get_or (xs ++ b ∷ back) (length xs) 0 ≡ b
      byte_at [] = refl
      byte_at (x ∷ xs) = byte_at xs

  pub utf8-front : IsUtf8 front
  utf8-front = subst IsUtf8 (take-append_seam front (b ∷ back))
      (IsUtf8-take (front ++ b ∷ back) (length front) is seam)

  pub utf8-back : IsUtf8 (b ∷ back)
  utf8-back = subst IsUtf8 (drop-append_seam front (b ∷ back))
      (IsUtf8-drop (front ++ b ∷ back) (length front) is seam)

pub utf8-one : (b : ℕ) → b < 128 → IsUtf8 (b ∷ [])
utf8-one b small = IsUtf8-from_ascii (b ∷ []) each
  where
    each : (i : ℕ) → get_or (b ∷ []) i 0 < 128
    each zero = small
    each (suc i) = omega arith

pub utf8-cons : (b : ℕ) (bs : List ℕ) → b < 128 → IsUtf8 bs → IsUtf8 (b ∷ bs)
utf8-cons b bs small is = IsUtf8-append (b ∷ []) bs (utf8-one b small) is

-- a text as two facts
pub record IsText (text : List ℕ) : Type 0 where
  pub utf8 : IsUtf8 text
  pub bytes : list_all is_text_byte text ≡ true

pub text-from : (text : List ℕ) → is_text text ≡ true → IsText text
text-from text is = let parts = both (is_utf8 text) (list_all is_text_byte text) is in record {
  utf8 = IsUtf8-from_is_utf8 text parts.0;
  bytes = parts.1;
}

pub text-is : (text : List ℕ) → IsText text → is_text text ≡ true
text-is text is = together (is_utf8 text) (list_all is_text_byte text) (utf8_yes text is.utf8) is.bytes

pub text-append : (xs ys : List ℕ) → IsText xs → IsText ys → IsText (xs ++ ys)
text-append xs ys first second = record {
  utf8 = IsUtf8-append xs ys first.utf8 second.utf8;
  bytes = list_all-append is_text_byte xs ys ∙ together (list_all is_text_byte xs)
      (list_all is_text_byte ys) first.bytes second.bytes;
}

pub text-nil : IsText []
text-nil = record { utf8 = IsUtf8-nil; bytes = refl }

pub text-cons : (b : ℕ) (bs : List ℕ) → b < 128 → is_text_byte b ≡ true → IsText bs → IsText (b ∷ bs)
text-cons b bs small is rest = record {
  utf8 = utf8-cons b bs small rest.utf8;
  bytes = together (is_text_byte b) (list_all is_text_byte bs) is rest.bytes;
}

-- bytes of ASCII that may stand in a text, as a test that computes on bytes that are written out
abbrev pub is_plain_text : List ℕ → Bool
is_plain_text [] = true
is_plain_text (b ∷ bs) = (nat_lt b 128 && is_text_byte b) && is_plain_text bs

pub plain_text : (bs : List ℕ) → is_plain_text bs ≡ true → IsText bs
plain_text [] is = text-nil
plain_text (b ∷ bs) is =
    let parts = both (nat_lt b 128 && is_text_byte b) (is_plain_text bs) is in
    let first = both (nat_lt b 128) (is_text_byte b) parts.0 in
    let small : b < 128 = grind (arith, nat_tests, first.0) in
    text-cons b bs small first.1 (plain_text bs parts.1)

pub text-front : (front : List ℕ) (b : ℕ) (back : List ℕ) → b < 128 → IsText (front ++ b ∷ back)
    → IsText front
text-front front b back small is = record {
  utf8 = utf8-front front b back small is.utf8;
  bytes = (both (list_all is_text_byte front) (list_all is_text_byte (b ∷ back))
      (sym (list_all-append is_text_byte front (b ∷ back)) ∙ is.bytes)).0;
}

pub text-back : (front : List ℕ) (b : ℕ) (back : List ℕ) → b < 128 → IsText (front ++ b ∷ back)
    → IsText (b ∷ back)
text-back front b back small is = record {
  utf8 = utf8-back front b back small is.utf8;
  bytes = (both (list_all is_text_byte front) (list_all is_text_byte (b ∷ back))
      (sym (list_all-append is_text_byte front (b ∷ back)) ∙ is.bytes)).1;
}

pub text-tail : (b : ℕ) (bs : List ℕ) → b < 128 → IsText (b ∷ bs) → IsText bs
text-tail b [] small is = text-nil
text-tail b (c ∷ cs) small is = record {
  utf8 = tail;
  bytes = (both (is_text_byte b) (list_all is_text_byte (c ∷ cs)) is.bytes).1;
}
  where
    tail : IsUtf8 (c ∷ cs)
    tail = IsUtf8-drop (b ∷ c ∷ cs) 1 is.utf8 (IsCharBoundary-after_ascii (b ∷ c ∷ cs) 0 is.utf8
        (omega arith) small)
