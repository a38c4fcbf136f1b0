-- Examples in bytes: the one of 01, and of our own every kind of command, of answer and of stop. Bytes are written in decimal.
use Rattle.std.specs.Prelude.{List, [], ◌∷◌, ◌++◌, map, ℕ}
use Rattle.lists.specs.Lists.{concat, from}
use Rattle.commands.specs.declared.Ran.{Ran}
use Rattle.rows.specs.Row.{Row, runs}

-- number, commands, bytes read, bytes written
abbrev ran : ℕ → ℕ → ℕ → ℕ → Ran
ran n c r w = record { number = n; commands = c; read = r; written = w }

-- numbers below 256 in 4 bytes and in 8; and one in 8 bytes that all differ
abbrev small : ℕ → List ℕ
small i = i ∷ 0 ∷ 0 ∷ 0 ∷ []

abbrev wide : ℕ → List ℕ
wide x = x ∷ 0 ∷ 0 ∷ 0 ∷ 0 ∷ 0 ∷ 0 ∷ 0 ∷ []

abbrev mixed : List ℕ
mixed = 1 ∷ 2 ∷ 3 ∷ 4 ∷ 5 ∷ 6 ∷ 7 ∷ 255 ∷ []

abbrev mixed_number : ℕ
mixed_number = 18376663423120507393

-- commands
abbrev insert : ℕ → List ℕ → List ℕ
insert i x = 1 ∷ (small i ++ x)

abbrev remove : ℕ → List ℕ
remove i = 2 ∷ small i

abbrev push : List ℕ → List ℕ
push x = 3 ∷ x

abbrev get : ℕ → List ℕ
get i = 4 ∷ small i

abbrev replace : ℕ → List ℕ → List ℕ
replace i x = 5 ∷ (small i ++ x)

abbrev len : List ℕ
len = 6 ∷ []

-- answers
abbrev done : List ℕ
done = 129 ∷ []

abbrev element : List ℕ → List ℕ
element x = 130 ∷ x

abbrev length_is : List ℕ → List ℕ
length_is n = 131 ∷ n

abbrev refusal : ℕ → List ℕ
refusal n = 132 ∷ n ∷ []

abbrev got : List ℕ → ℕ → List ℕ
got x n = 133 ∷ (x ++ small n)

-- a push, a lookup, and a removal that is refused: 01's example
abbrev three : List ℕ
three = concat (push (wide 7) ∷ get 0 ∷ remove 1 ∷ [])

abbrev three_answers : List ℕ
three_answers = concat (done ∷ got (wide 7) 0 ∷ refusal 2 ∷ [])

-- all six kinds, accepted and, where they can be, refused; the last index is 2 ^ 24
abbrev every : List ℕ
every =
    concat
    (push (wide 7) ∷
    insert 1 mixed ∷
    replace 0 mixed ∷
    len ∷
    get 1 ∷
    remove 1 ∷
    insert 2 mixed ∷
    replace 1 mixed ∷
    get 1 ∷
    remove 1 ∷
    push mixed ∷
    push (wide 9) ∷
    (4 ∷ 0 ∷ 0 ∷ 0 ∷ 1 ∷ []) ∷
    [])

abbrev every_answer : List ℕ
every_answer =
    concat
    (done ∷
    done ∷
    element (wide 7) ∷
    length_is (wide 2) ∷
    got mixed 0 ∷
    element mixed ∷
    refusal 2 ∷
    refusal 2 ∷
    refusal 2 ∷
    refusal 2 ∷
    done ∷
    done ∷
    refusal 2 ∷
    [])

-- 1 to 32 pushed
abbrev pushed : List ℕ
pushed = concat (map (λ x. push (wide x)) (from 1 32))

abbrev pushed_answer : List ℕ
pushed_answer = concat (map (λ x. done) (from 1 32))

unfoldable pub bytes : List Row
unfolding from concat
bytes =
    runs 60 three 100 (ran 0 3 19 16) three_answers (7 ∷ []) ∷
    runs 60 three 27 (ran 0 3 19 16) three_answers (7 ∷ []) ∷
    runs 60 three 26 (ran 7 2 14 14) (done ++ got (wide 7) 0) (7 ∷ []) ∷
    -- every kind of command; comparisons; refused for want of room
    runs 60 every 200 (ran 0 13 105 54) every_answer (mixed_number ∷ mixed_number ∷ 9 ∷ []) ∷
    runs 3 (pushed ++ get 15) 100 (ran 0 33 293 45) (pushed_answer ++ got (wide 16) 1) (from 1 32) ∷
    runs 0 (concat (push (wide 7) ∷ insert 0 (wide 7) ∷ insert 1 (wide 7) ∷ [])) 100 (ran 0 3 35 6)
    (concat (refusal 3 ∷ refusal 3 ∷ refusal 2 ∷ [])) [] ∷
    -- the end of the input; a kind that is unknown
    runs 1 [] 0 (ran 0 0 0 0) [] [] ∷
    runs 1 (0 ∷ []) 100 (ran 5 0 0 0) [] [] ∷
    runs 1 (len ++ (7 ∷ small 0)) 100 (ran 5 1 1 9) (length_is (wide 0)) [] ∷
    runs 1 (255 ∷ []) 0 (ran 5 0 0 0) [] [] ∷
    -- a command cut short, by one byte of each kind
    runs 1 (1 ∷ (small 0 ++ (7 ∷ 0 ∷ 0 ∷ 0 ∷ 0 ∷ 0 ∷ 0 ∷ []))) 100 (ran 6 0 0 0) [] [] ∷
    runs 1 (2 ∷ 0 ∷ 0 ∷ 0 ∷ []) 100 (ran 6 0 0 0) [] [] ∷
    runs 1 (3 ∷ 7 ∷ 0 ∷ 0 ∷ 0 ∷ 0 ∷ 0 ∷ 0 ∷ []) 0 (ran 6 0 0 0) [] [] ∷
    runs 1 (len ++ (4 ∷ 0 ∷ 0 ∷ 0 ∷ [])) 100 (ran 6 1 1 9) (length_is (wide 0)) [] ∷
    runs 1 (5 ∷ (small 0 ++ (7 ∷ 0 ∷ 0 ∷ 0 ∷ 0 ∷ 0 ∷ 0 ∷ []))) 100 (ran 6 0 0 0) [] [] ∷
    -- 13 bytes of room for every answer, a short one too
    runs 1 len 13 (ran 0 1 1 9) (length_is (wide 0)) [] ∷
    runs 1 len 12 (ran 7 0 0 0) [] [] ∷
    runs 1 (push (wide 7) ++ len) 14 (ran 0 2 10 10) (done ++ length_is (wide 1)) (7 ∷ []) ∷
    runs 1 (push (wide 7) ++ len) 13 (ran 7 1 9 1) done (7 ∷ []) ∷
    []
