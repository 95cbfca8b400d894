-- What numbers say in words.
use Rattle.std.specs.Prelude.{ℕ, ◌==◌, if◌then◌else◌, List, [], codes}

-- the words for the number of an answer; none for a number that no call answers
abbrev pub message_of : (number : ℕ) → List ℕ
message_of number =
    if number == 1 then codes "the text can't be read on"
    else if number == 2 then codes "the text is too long"
    else if number == 3 then codes "the file would be too long"
    else if number == 4 then codes "the name can't be a section's"
    else if number == 5 then codes "the name can't be a subsection's"
    else if number == 6 then codes "the name can't be a value's"
    else if number == 7 then codes "no section has the name"
    else if number == 8 then codes "no section of the name has the subsection"
    else if number == 9 then codes "the section has no such value"
    else if number == 11 then codes "the value is not of the type"
    else if number == 12 then codes "a folder that the path needs is not known, or the path is empty"
    else if number == 13 then codes "the path is not UTF-8"
    else if number == 14 then codes "the name of the path's user is not UTF-8"
    else if number == 15 then codes "files include each other too deeply"
    else if number == 16 then codes "an include is relative, and its file has no path"
    else if number == 17 then codes "a condition is about a repository, and there is none"
    else if number == 18 then codes "the repository's folder can't be resolved"
    else if number == 19 then codes "a file that is included can't be opened"
    else if number == 20 then codes "a file that is included can't be read"
    else if number == 21 then codes "the file can't be opened or read"
    else if number == 22 then codes "the key or the value that variables set is not UTF-8"
    else if number == 23 then codes "GIT_CONFIG_COUNT is no number"
    else if number == 24 then codes "the variable of a key is not set"
    else if number == 25 then codes "the key that variables set has no dot"
    else if number == 26 then codes "the variable of a value is not set"
    else if number == 27 then codes "out of memory"
    else if number == 100 then codes "there is no such thing"
    else if number == 101 then codes "a name is not UTF-8"
    else if number == 102 then codes "the handle is empty or holds something else"
    else if number == 103 then codes "nothing was told of a file that is needed"
    else if number == 104 then codes "no source or trust has the number"
    else if number == 105 then codes "nothing was told of a variable that is needed"
    else []
