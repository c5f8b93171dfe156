-- A journal that goes on.
use Rattle.std.proofs.Common.{List, [], ◌++◌, refl, sym, ap, subst, ◌∙◌, append_assoc, append-nil}
use Rattle.ts_journal.specs.declared.entry.Entry.{Entry}
use Rattle.ts_journal.specs.Machine.{IsLawful, replay}
use Rattle.ts_journal.specs.Log.{Log, Extends, IsSameLog}
use Rattle.ts_journal.proofs.Lawful.{replay-append, lawful_append}

pub same_refl : (a : Log) → IsSameLog a a
same_refl a = record { base = refl; entries = refl; state = refl }

pub same_trans : {a b c : Log} → IsSameLog a b → IsSameLog b c → IsSameLog a c
same_trans p q = record { base = q.base ∙ p.base; entries = q.entries ∙ p.entries; state = q.state ∙ p.state }

pub extends_none : (a b : Log) → IsSameLog a b → Extends a b []
extends_none a b h = record {
  base = h.base;
  entries = h.entries ∙ sym (append-nil a.entries);
  lawful = tt;
  state = h.state;
}

pub extends_trans : {a b c : Log} {es fs : List Entry} → Extends a b es → Extends b c fs
    → Extends a c (es ++ fs)
extends_trans {a} {b} {c} {es} {fs} p q = record {
  base = q.base ∙ p.base;
  entries = q.entries ∙ ap (λ xs. xs ++ fs) p.entries ∙ append_assoc a.entries es fs;
  lawful = lawful_append a.state es fs p.lawful (subst (λ s. IsLawful s fs) p.state q.lawful);
  state = q.state ∙ ap (λ s. replay s fs) p.state ∙ sym (replay-append a.state es fs);
}

-- a journal that only got more room goes on in the same way
pub extends_after : {a b c : Log} {es : List Entry} → IsSameLog a b → Extends b c es → Extends a c es
extends_after {a} {b} {c} {es} p q = record {
  base = q.base ∙ p.base;
  entries = q.entries ∙ ap (λ xs. xs ++ es) p.entries;
  lawful = subst (λ s. IsLawful s es) p.state q.lawful;
  state = q.state ∙ ap (λ s. replay s es) p.state;
}

pub extends_before : {a b c : Log} {es : List Entry} → Extends a b es → IsSameLog b c → Extends a c es
extends_before p q = record {
  base = q.base ∙ p.base;
  entries = q.entries ∙ p.entries;
  lawful = p.lawful;
  state = q.state ∙ p.state;
}
