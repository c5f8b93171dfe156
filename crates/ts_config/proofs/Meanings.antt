-- What follows from what a line means.
use Rattle.std.proofs.Common.{◌≡◌, ℕ, List, ◌∷◌, ◌++◌, Bool, true, false, Ok, Err, inl, inr, refl, ap, ◌∙◌}
use Rattle.std.specs.Prelude.{MatchBool}
use Rattle.ts_config.specs.declared.fields.PluginLine.{PluginLine}
use Rattle.ts_config.specs.declared.setup.InterceptLine.{InterceptLine}
use Rattle.ts_config.specs.declared.setup.TransformLine.{TransformLine}
use Rattle.ts_config.specs.declared.setup.ConfigKind.TheVariants as k
use Rattle.ts_config.specs.declared.setup.LineMeaning.{LineMeaning}
use Rattle.ts_config.specs.Setup.{ConfigLines}
use Rattle.ts_config.specs.Words.{IsWords}
use Rattle.ts_config.specs.Table.{line_entry}
use Rattle.ts_config.specs.Reading.{is_text, Means, MeansByWords}

-- lines of all kinds
abbrev pub lines_of_all : List TransformLine → List TransformLine → List InterceptLine → List PluginLine
    → List ℕ → ConfigLines
lines_of_all ts rs is ps ks =
    record { transforms = ts; requests = rs; intercepts = is; plugins = ps; taps = ks }

-- lines of which each kind is the same
pub same_lines : {ts ts' rs rs' : List TransformLine} {is is' : List InterceptLine} {ps ps' : List PluginLine}
    {ks ks' : List ℕ} → ts ≡ ts' → rs ≡ rs' → is ≡ is' → ps ≡ ps' → ks ≡ ks'
    → lines_of_all ts rs is ps ks ≡ lines_of_all ts' rs' is' ps' ks'
same_lines {ts = ts} {ts' = ts'} {rs = rs} {rs' = rs'} {is = is} {is' = is'} {ps = ps} {ps' = ps'} {ks = ks}
    a b c d e =
    ap (λ x. lines_of_all x rs is ps ks) a ∙ ap (λ x. lines_of_all ts' x is ps ks) b
    ∙ ap (λ x. lines_of_all ts' rs' x ps ks) c ∙ ap (λ x. lines_of_all ts' rs' is' x ks) d
    ∙ ap (λ x. lines_of_all ts' rs' is' ps' x) e

-- a line in the grammar is text, and its words mean what it means
pub in_words : (line : List ℕ) (e : LineMeaning) → Means line (Ok e)
    → (is_text line ≡ true)
    × ((words : List (List ℕ)) × IsWords line words × (Ok e ≡ line_entry words))
in_words line e means = by_text (is_text line) refl means
  where
    by_words : MeansByWords line (Ok e) → (words : List (List ℕ)) × IsWords line words
        × (Ok e ≡ line_entry words)
    by_words (inl found) = found
    by_words (inr quote) = absurd (let wrong : Ok e ≡ Err k.Quote = quote.1 in cc)

    by_text : (b : Bool) → is_text line ≡ b
        → MatchBool b (MeansByWords line (Ok e)) (Ok e ≡ Err k.Text)
        → (is_text line ≡ true)
        × ((words : List (List ℕ)) × IsWords line words × (Ok e ≡ line_entry words))
    by_text true text means = (text, by_words means)
    by_text false text wrong = absurd (let e' : Ok e ≡ Err k.Text = wrong in cc)
