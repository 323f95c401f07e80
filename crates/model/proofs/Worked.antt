-- The worked cases, by computing.
use Rattle.std.proofs.Common.{refl, lit<}
use Rattle.model.specs.Finding.{any, all, exists, last}
use Rattle.model.specs.Words.{has, touches, home, worker}
use Rattle.model.specs.State.{no_workers, no_marks_yet, no_numbers_yet}
use Rattle.model.specs.Model.{marking}
use Rattle.model.specs.Book.{conflicts, book, commits}
use Rattle.model.specs.Needs.{last_joint, last_plain, need_of}
use Rattle.model.specs.Cases.{WorkedCases}

pub worked_cases : WorkedCases
unfolding any all exists last has marking no_workers no_marks_yet no_numbers_yet touches home worker conflicts book commits last_joint last_plain need_of
worked_cases = record {
  gives_small = (refl, (refl, ((refl, record { earlier = 1; later = 0; mine = refl; known = lit< tt; clash = refl; marked = refl; past = lit< tt }), (refl, (refl, (refl, ((refl, tt), (refl, (refl, (refl, (refl, (refl, (refl, (refl, tt))))))))))))));
  gives_nine = ((refl, tt), (refl, (refl, ((refl, tt), (refl, (refl, (refl, ((refl, tt), (refl, (refl, ((refl, tt), (refl, (refl, ((refl, tt), (refl, (refl, (refl, (refl, ((refl, tt), (refl, ((refl, tt), (refl, ((refl, tt), (refl, ((refl, tt), (refl, (refl, (refl, (refl, (refl, (refl, (refl, (refl, (refl, (refl, (refl, (refl, (refl, (refl, (refl, (refl, (refl, (refl, (refl, tt))))))))))))))))))))))))))))))))))))))))))));
  gives_no_mark_left = ((refl, tt), (refl, ((refl, record { earlier = 1; later = 0; mine = refl; known = lit< tt; clash = refl; marked = refl; past = lit< tt }), (refl, ((refl, tt), (refl, (refl, (refl, (refl, (refl, (refl, (refl, tt))))))))))));
  workers = refl;
  five_needs = refl;
  six_needs = refl;
  seven_needs = refl;
  eight_needs = refl;
  nine_needs = refl;
  write_read = refl;
  write_seen_read = refl;
  aborted_writer = refl;
  write_write_validation = refl;
  write_write_first_committer = refl;
  add_add_read = refl;
  add_write = refl;
  read_write_validation = refl;
  read_write_first_committer = refl;
  read_write_counting = refl;
}
