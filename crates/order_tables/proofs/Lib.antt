mod Rearranged
