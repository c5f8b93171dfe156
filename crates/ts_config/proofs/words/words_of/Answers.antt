-- Each word is put behind those before it.
use Rattle.std.proofs.Common.{◌≡◌, ℕ, List, [], ◌∷◌, ◌++◌, map, Bor, ap, sym, ◌∙◌, subst}
use Rattle.std.proofs.lemmas.List.{map-append}
use Rattle.ts_config.proofs.WordsSoFar.{ReadSoFar, read_word, read_all}
use Rattle.ts_config.proofs.words.words_of.Goals as goal

pub returns-in-Nothing : goal.returns-in-Nothing
returns-in-Nothing c =
    read_all c.args.line.now c.loop-words.rest.now
    (map (λ w. w.now) c.loop-words.words.items) c.loop-words.invariant c.in-Nothing.ensures

pub loop-words-preserved : goal.loop-words-preserved
loop-words-preserved c =
    let value : Bor (List ℕ) → List ℕ = λ w. w.now in
    let words : List (Bor (List ℕ)) = c.loop-words.words.items in
    let pushed : map value c.push.new.self.items ≡ map value words ++ c.in-Word.word.now ∷ [] =
    ap (map value) c.in_ok-push-in-Word.ensures.items ∙ map-append value words (c.in-Word.word ∷ []) in
    subst (ReadSoFar c.args.line.now c.in-Word.behind.now) (sym pushed)
    (read_word c.args.line.now c.loop-words.rest.now c.in-Word.behind.now c.in-Word.word.now
    (map value words) c.loop-words.invariant c.in-Word.ensures)
