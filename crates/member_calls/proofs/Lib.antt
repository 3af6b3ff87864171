mod GuardLists
mod LocalGuards
mod RangeGuards
