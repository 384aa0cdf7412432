-- What the counts of a file's records are. Assumes nothing.
use Rattle.std.specs.Prelude.{◌≡◌, ℕ, List}
use Rattle.record_file.specs.Layout.{count_before, o_letter, r_letter, l_letter, p_letter}
use Rattle.file_report.specs.declared.counts.Counts.{Counts}

-- how many of the records before record k are of each kind
pub record CountsBefore (file : List ℕ) (k : ℕ) (c : Counts) : Type 0 where
  pub domains : c.domains ≡ count_before file o_letter k
  pub rows : c.rows ≡ count_before file r_letter k
  pub inequalities : c.inequalities ≡ count_before file l_letter k
  pub prices : c.prices ≡ count_before file p_letter k
