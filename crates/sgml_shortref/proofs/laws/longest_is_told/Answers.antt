use Rattle.sgml_shortref.proofs.Standing.{told-stands}
use Rattle.sgml_shortref.proofs.Spelling.{matched-longest, matched-once}
use Rattle.sgml_shortref.proofs.laws.longest_is_told.Goals as goal

pub returns-clause-longest : goal.returns-clause-longest
returns-clause-longest c = λ text number n m. matched-longest text number n m

pub returns-clause-one : goal.returns-clause-one
returns-clause-one c = λ text number other n a b. matched-once text number other n a b

pub returns-clause-stands : goal.returns-clause-stands
returns-clause-stands c = λ text number n h. told-stands text number n h
