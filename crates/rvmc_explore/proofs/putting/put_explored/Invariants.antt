use Rattle.rvmc_explore.proofs.putting.put_explored.Given as goal

-- the search goes on behind what the writer holds
abbrev pub ghosts-search_telling-K-Outset : goal.ghosts-search_telling-K-Outset
ghosts-search_telling-K-Outset g a =
    record { name = a.teller.now.out.ghost_name; before = g.O.Write.contents a.teller.now.out.now }

-- each standard send copies its message or may wait, as is asked for
abbrev pub ghosts-search_telling-K-Sends : goal.ghosts-search_telling-K-Sends
ghosts-search_telling-K-Sends g a = record { buffered = a.asked.now.buffered }
