use Rattle.rvmc_explore.proofs.recording.recorded.Given as goal

-- each standard send copies its message or may wait, as is asked for
abbrev pub ghosts-search_hearing : goal.ghosts-search_hearing
ghosts-search_hearing g a = record { buffered = a.asked.now.buffered }
