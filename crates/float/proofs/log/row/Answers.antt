-- `float::log::row` meets its contract: each arm by computing what the definitions give at its number. Written by tools/rows. Assumes nothing.
use mathlib.Core.Path.{sym, ap}
use Rattle.float.specs.Log.{reciprocal, minus_log, artanh, total, term}
use Rattle.float.proofs.LogRows.{None, last, log_of}
use Rattle.float.proofs.log.row.Goals as goal

pub returns-in-0 : goal.returns-in-0
unfolding reciprocal log_of minus_log artanh total term
returns-in-0 c = (sym (ap reciprocal c.in-0.is), sym (ap log_of c.in-0.is))

pub returns-in-1 : goal.returns-in-1
unfolding reciprocal log_of minus_log artanh total term
returns-in-1 c = (sym (ap reciprocal c.in-1.is), sym (ap log_of c.in-1.is))

pub returns-in-2 : goal.returns-in-2
unfolding reciprocal log_of minus_log artanh total term
returns-in-2 c = (sym (ap reciprocal c.in-2.is), sym (ap log_of c.in-2.is))

pub returns-in-3 : goal.returns-in-3
unfolding reciprocal log_of minus_log artanh total term
returns-in-3 c = (sym (ap reciprocal c.in-3.is), sym (ap log_of c.in-3.is))

pub returns-in-4 : goal.returns-in-4
unfolding reciprocal log_of minus_log artanh total term
returns-in-4 c = (sym (ap reciprocal c.in-4.is), sym (ap log_of c.in-4.is))

pub returns-in-5 : goal.returns-in-5
unfolding reciprocal log_of minus_log artanh total term
returns-in-5 c = (sym (ap reciprocal c.in-5.is), sym (ap log_of c.in-5.is))

pub returns-in-6 : goal.returns-in-6
unfolding reciprocal log_of minus_log artanh total term
returns-in-6 c = (sym (ap reciprocal c.in-6.is), sym (ap log_of c.in-6.is))

pub returns-in-7 : goal.returns-in-7
unfolding reciprocal log_of minus_log artanh total term
returns-in-7 c = (sym (ap reciprocal c.in-7.is), sym (ap log_of c.in-7.is))

pub returns-in-8 : goal.returns-in-8
unfolding reciprocal log_of minus_log artanh total term
returns-in-8 c = (sym (ap reciprocal c.in-8.is), sym (ap log_of c.in-8.is))

pub returns-in-9 : goal.returns-in-9
unfolding reciprocal log_of minus_log artanh total term
returns-in-9 c = (sym (ap reciprocal c.in-9.is), sym (ap log_of c.in-9.is))

pub returns-in-10 : goal.returns-in-10
unfolding reciprocal log_of minus_log artanh total term
returns-in-10 c = (sym (ap reciprocal c.in-10.is), sym (ap log_of c.in-10.is))

pub returns-in-11 : goal.returns-in-11
unfolding reciprocal log_of minus_log artanh total term
returns-in-11 c = (sym (ap reciprocal c.in-11.is), sym (ap log_of c.in-11.is))

pub returns-in-12 : goal.returns-in-12
unfolding reciprocal log_of minus_log artanh total term
returns-in-12 c = (sym (ap reciprocal c.in-12.is), sym (ap log_of c.in-12.is))

pub returns-in-13 : goal.returns-in-13
unfolding reciprocal log_of minus_log artanh total term
returns-in-13 c = (sym (ap reciprocal c.in-13.is), sym (ap log_of c.in-13.is))

pub returns-in-14 : goal.returns-in-14
unfolding reciprocal log_of minus_log artanh total term
returns-in-14 c = (sym (ap reciprocal c.in-14.is), sym (ap log_of c.in-14.is))

pub returns-in-15 : goal.returns-in-15
unfolding reciprocal log_of minus_log artanh total term
returns-in-15 c = (sym (ap reciprocal c.in-15.is), sym (ap log_of c.in-15.is))

pub returns-in-16 : goal.returns-in-16
unfolding reciprocal log_of minus_log artanh total term
returns-in-16 c = (sym (ap reciprocal c.in-16.is), sym (ap log_of c.in-16.is))

pub returns-in-17 : goal.returns-in-17
unfolding reciprocal log_of minus_log artanh total term
returns-in-17 c = (sym (ap reciprocal c.in-17.is), sym (ap log_of c.in-17.is))

pub returns-in-18 : goal.returns-in-18
unfolding reciprocal log_of minus_log artanh total term
returns-in-18 c = (sym (ap reciprocal c.in-18.is), sym (ap log_of c.in-18.is))

pub returns-in-19 : goal.returns-in-19
unfolding reciprocal log_of minus_log artanh total term
returns-in-19 c = (sym (ap reciprocal c.in-19.is), sym (ap log_of c.in-19.is))

pub returns-in-20 : goal.returns-in-20
unfolding reciprocal log_of minus_log artanh total term
returns-in-20 c = (sym (ap reciprocal c.in-20.is), sym (ap log_of c.in-20.is))

pub returns-in-21 : goal.returns-in-21
unfolding reciprocal log_of minus_log artanh total term
returns-in-21 c = (sym (ap reciprocal c.in-21.is), sym (ap log_of c.in-21.is))

pub returns-in-22 : goal.returns-in-22
unfolding reciprocal log_of minus_log artanh total term
returns-in-22 c = (sym (ap reciprocal c.in-22.is), sym (ap log_of c.in-22.is))

pub returns-in-23 : goal.returns-in-23
unfolding reciprocal log_of minus_log artanh total term
returns-in-23 c = (sym (ap reciprocal c.in-23.is), sym (ap log_of c.in-23.is))

pub returns-in-24 : goal.returns-in-24
unfolding reciprocal log_of minus_log artanh total term
returns-in-24 c = (sym (ap reciprocal c.in-24.is), sym (ap log_of c.in-24.is))

pub returns-in-25 : goal.returns-in-25
unfolding reciprocal log_of minus_log artanh total term
returns-in-25 c = (sym (ap reciprocal c.in-25.is), sym (ap log_of c.in-25.is))

pub returns-in-26 : goal.returns-in-26
unfolding reciprocal log_of minus_log artanh total term
returns-in-26 c = (sym (ap reciprocal c.in-26.is), sym (ap log_of c.in-26.is))

pub returns-in-27 : goal.returns-in-27
unfolding reciprocal log_of minus_log artanh total term
returns-in-27 c = (sym (ap reciprocal c.in-27.is), sym (ap log_of c.in-27.is))

pub returns-in-28 : goal.returns-in-28
unfolding reciprocal log_of minus_log artanh total term
returns-in-28 c = (sym (ap reciprocal c.in-28.is), sym (ap log_of c.in-28.is))

pub returns-in-29 : goal.returns-in-29
unfolding reciprocal log_of minus_log artanh total term
returns-in-29 c = (sym (ap reciprocal c.in-29.is), sym (ap log_of c.in-29.is))

pub returns-in-30 : goal.returns-in-30
unfolding reciprocal log_of minus_log artanh total term
returns-in-30 c = (sym (ap reciprocal c.in-30.is), sym (ap log_of c.in-30.is))

pub returns-in-31 : goal.returns-in-31
unfolding reciprocal log_of minus_log artanh total term
returns-in-31 c = (sym (ap reciprocal c.in-31.is), sym (ap log_of c.in-31.is))

pub returns-in-32 : goal.returns-in-32
unfolding reciprocal log_of minus_log artanh total term
returns-in-32 c = (sym (ap reciprocal c.in-32.is), sym (ap log_of c.in-32.is))

pub returns-in-33 : goal.returns-in-33
unfolding reciprocal log_of minus_log artanh total term
returns-in-33 c = (sym (ap reciprocal c.in-33.is), sym (ap log_of c.in-33.is))

pub returns-in-34 : goal.returns-in-34
unfolding reciprocal log_of minus_log artanh total term
returns-in-34 c = (sym (ap reciprocal c.in-34.is), sym (ap log_of c.in-34.is))

pub returns-in-35 : goal.returns-in-35
unfolding reciprocal log_of minus_log artanh total term
returns-in-35 c = (sym (ap reciprocal c.in-35.is), sym (ap log_of c.in-35.is))

pub returns-in-36 : goal.returns-in-36
unfolding reciprocal log_of minus_log artanh total term
returns-in-36 c = (sym (ap reciprocal c.in-36.is), sym (ap log_of c.in-36.is))

pub returns-in-37 : goal.returns-in-37
unfolding reciprocal log_of minus_log artanh total term
returns-in-37 c = (sym (ap reciprocal c.in-37.is), sym (ap log_of c.in-37.is))

pub returns-in-38 : goal.returns-in-38
unfolding reciprocal log_of minus_log artanh total term
returns-in-38 c = (sym (ap reciprocal c.in-38.is), sym (ap log_of c.in-38.is))

pub returns-in-39 : goal.returns-in-39
unfolding reciprocal log_of minus_log artanh total term
returns-in-39 c = (sym (ap reciprocal c.in-39.is), sym (ap log_of c.in-39.is))

pub returns-in-40 : goal.returns-in-40
unfolding reciprocal log_of minus_log artanh total term
returns-in-40 c = (sym (ap reciprocal c.in-40.is), sym (ap log_of c.in-40.is))

pub returns-in-41 : goal.returns-in-41
unfolding reciprocal log_of minus_log artanh total term
returns-in-41 c = (sym (ap reciprocal c.in-41.is), sym (ap log_of c.in-41.is))

pub returns-in-42 : goal.returns-in-42
unfolding reciprocal log_of minus_log artanh total term
returns-in-42 c = (sym (ap reciprocal c.in-42.is), sym (ap log_of c.in-42.is))

pub returns-in-43 : goal.returns-in-43
unfolding reciprocal log_of minus_log artanh total term
returns-in-43 c = (sym (ap reciprocal c.in-43.is), sym (ap log_of c.in-43.is))

pub returns-in-44 : goal.returns-in-44
unfolding reciprocal log_of minus_log artanh total term
returns-in-44 c = (sym (ap reciprocal c.in-44.is), sym (ap log_of c.in-44.is))

pub returns-in-45 : goal.returns-in-45
unfolding reciprocal log_of minus_log artanh total term
returns-in-45 c = (sym (ap reciprocal c.in-45.is), sym (ap log_of c.in-45.is))

pub returns-in-46 : goal.returns-in-46
unfolding reciprocal log_of minus_log artanh total term
returns-in-46 c = (sym (ap reciprocal c.in-46.is), sym (ap log_of c.in-46.is))

pub returns-in-47 : goal.returns-in-47
unfolding reciprocal log_of minus_log artanh total term
returns-in-47 c = (sym (ap reciprocal c.in-47.is), sym (ap log_of c.in-47.is))

pub returns-in-48 : goal.returns-in-48
unfolding reciprocal log_of minus_log artanh total term
returns-in-48 c = (sym (ap reciprocal c.in-48.is), sym (ap log_of c.in-48.is))

pub returns-in-49 : goal.returns-in-49
unfolding reciprocal log_of minus_log artanh total term
returns-in-49 c = (sym (ap reciprocal c.in-49.is), sym (ap log_of c.in-49.is))

pub returns-in-50 : goal.returns-in-50
unfolding reciprocal log_of minus_log artanh total term
returns-in-50 c = (sym (ap reciprocal c.in-50.is), sym (ap log_of c.in-50.is))

pub returns-in-51 : goal.returns-in-51
unfolding reciprocal log_of minus_log artanh total term
returns-in-51 c = (sym (ap reciprocal c.in-51.is), sym (ap log_of c.in-51.is))

pub returns-in-52 : goal.returns-in-52
unfolding reciprocal log_of minus_log artanh total term
returns-in-52 c = (sym (ap reciprocal c.in-52.is), sym (ap log_of c.in-52.is))

pub returns-in-53 : goal.returns-in-53
unfolding reciprocal log_of minus_log artanh total term
returns-in-53 c = (sym (ap reciprocal c.in-53.is), sym (ap log_of c.in-53.is))

pub returns-in-54 : goal.returns-in-54
unfolding reciprocal log_of minus_log artanh total term
returns-in-54 c = (sym (ap reciprocal c.in-54.is), sym (ap log_of c.in-54.is))

pub returns-in-55 : goal.returns-in-55
unfolding reciprocal log_of minus_log artanh total term
returns-in-55 c = (sym (ap reciprocal c.in-55.is), sym (ap log_of c.in-55.is))

pub returns-in-56 : goal.returns-in-56
unfolding reciprocal log_of minus_log artanh total term
returns-in-56 c = (sym (ap reciprocal c.in-56.is), sym (ap log_of c.in-56.is))

pub returns-in-57 : goal.returns-in-57
unfolding reciprocal log_of minus_log artanh total term
returns-in-57 c = (sym (ap reciprocal c.in-57.is), sym (ap log_of c.in-57.is))

pub returns-in-58 : goal.returns-in-58
unfolding reciprocal log_of minus_log artanh total term
returns-in-58 c = (sym (ap reciprocal c.in-58.is), sym (ap log_of c.in-58.is))

pub returns-in-59 : goal.returns-in-59
unfolding reciprocal log_of minus_log artanh total term
returns-in-59 c = (sym (ap reciprocal c.in-59.is), sym (ap log_of c.in-59.is))

pub returns-in-60 : goal.returns-in-60
unfolding reciprocal log_of minus_log artanh total term
returns-in-60 c = (sym (ap reciprocal c.in-60.is), sym (ap log_of c.in-60.is))

pub returns-in-61 : goal.returns-in-61
unfolding reciprocal log_of minus_log artanh total term
returns-in-61 c = (sym (ap reciprocal c.in-61.is), sym (ap log_of c.in-61.is))

pub returns-in-62 : goal.returns-in-62
unfolding reciprocal log_of minus_log artanh total term
returns-in-62 c = (sym (ap reciprocal c.in-62.is), sym (ap log_of c.in-62.is))

pub returns-in_default : goal.returns-in_default
unfolding reciprocal log_of minus_log artanh total term None
returns-in_default c =
    let none : None c.args.j 63 = assumption c.in_default in
    let e = last c.args.j none c.requires in
    (sym (ap reciprocal e), sym (ap log_of e))
